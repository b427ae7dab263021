use Rattle.cts_model.proofs.TableLemmas.{unknown_key_is_least, first_disorder_is_denoted}
use Rattle.cts_model.proofs.laws.tables.Goals as goal

pub returns-clause-unknown : goal.returns-clause-unknown
returns-clause-unknown c = unknown_key_is_least

pub returns-clause-disorder : goal.returns-clause-disorder
returns-clause-disorder c = first_disorder_is_denoted
