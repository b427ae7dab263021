-- The table has for each byte whether it is one of a name.
use Rattle.bench_reader.proofs.Vocabulary.{false, arith, is_name_byte}
use Rattle.std.proofs.lemmas.List.FromFn.{get_or-map-range_with_len}
use Rattle.bench_reader.proofs.token.is_name_byte.Goals as goal

pub returns : goal.returns
returns c = get_or-map-range_with_len is_name_byte 0 256 c.args.byte c.args.byte false
    (omega (arith, c.ranges.byte)) (omega arith)
