use Rattle.report_text.proofs.Vocabulary.{◌≡◌, ◌++◌, ◌∷◌, take, flat_map}
use Rattle.report_text.proofs.line.push_line.Given as goal

-- the words so far, each but the first after a space
abbrev pub invariant-loop-other : goal.invariant-loop-other
invariant-loop-other l =
    l.out.items ≡ (l.fn.out.items ++ l.fn.word) ++ flat_map (λ other. 32 ∷ other.now)
    (take l.other-index l.others)
