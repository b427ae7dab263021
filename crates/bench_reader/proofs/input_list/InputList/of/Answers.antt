use Rattle.std.proofs.Common.{arith, rules}
use Rattle.bench_reader.proofs.InputLemmas.{inputs_are_words, tokens_len}
use Rattle.bench_reader.proofs.input_list.InputList.of.Goals as goal

pub tally-requires : goal.tally-requires
tally-requires c = rw (← c.rest-text.ensures) (omega (arith, tokens_len c.rest-text.result.now))

pub invariant_of-result : goal.invariant_of-result
invariant_of-result c = search (rules, inputs_are_words c.args.tokens)

pub returns : goal.returns
returns c = search (rules, inputs_are_words c.args.tokens)
