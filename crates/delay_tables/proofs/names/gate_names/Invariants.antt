use Rattle.delay_tables.proofs.Vocabulary.{◌≡◌, map, take, texts}
use Rattle.cts_model.specs.table.TableKeys as tables
use Rattle.delay_tables.proofs.names.gate_names.Given as goal

abbrev pub invariant-loop-kind : goal.invariant-loop-kind
invariant-loop-kind l = texts l.names.items ≡ map tables.word_of (take l.kind-index l.kinds)
