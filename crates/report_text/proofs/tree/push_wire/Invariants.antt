use Rattle.report_text.proofs.Vocabulary.{◌≡◌, ◌++◌, ◌∷◌, pos, take, flat_map, point_words, signed_decimal, suffix}
use Rattle.report_text.proofs.tree.push_wire.Given as goal

-- the count, and the points so far
abbrev pub invariant-loop-point : goal.invariant-loop-point
invariant-loop-point l =
    l.out.items ≡ l.fn.out.items ++ suffix (signed_decimal (pos l.fn.wire.used)
    ∷ flat_map (point_words l.printed.report.now)
    (take l.point-index (take l.fn.wire.used l.fn.wire.corners)))
