use Rattle.bench_reader.proofs.Vocabulary.{◌≡◌, ◌<◌, ◌+◌, ◌^◌, length, option_map, more_inputs_of}
use Rattle.bench_reader.specs.Tallies.{with_names}
use Rattle.bench_reader.proofs.input_list.tally_more.Given as goal

-- the names so far, and those that are left, are all
abbrev pub invariant-loop-tokens : goal.invariant-loop-tokens
invariant-loop-tokens l =
    (l.tally.count + length l.tokens < 2 ^ 64)
    × (option_map (with_names l.tally) (more_inputs_of l.tokens)
    ≡ option_map (with_names l.initial.tally) (more_inputs_of l.initial.tokens))

abbrev pub decreases-loop-tokens : goal.decreases-loop-tokens
decreases-loop-tokens l = length l.tokens
