use Rattle.report_text.proofs.Vocabulary.{nat_abs, w128, to_z-of_z, quotient_text, IsBelow}
use Rattle.report_text.proofs.NumberWords.{fits}
use Rattle.report_text.proofs.ScanLemmas.{takes_word}
use Rattle.report_text.proofs.scan.Scan.length.Goals as goal

pub returns : goal.returns
returns c circuit =
    let grid = c.args.rules.now.scale.grid in
    let small = c.args.rules.now.small in
    let over = to_z-of_z w128 grid (fits grid small.small_grid) in
    let bound = to_z-of_z w128 c.args.bound c.ranges.bound in
    rw (to_z-of_z w128 c.keep.result (record { sfits = c.keep.type_inv })) (takes_word _ _
    c.next-word.ensures.taken (rw (over, bound) at (c.read_steps.ensures.flaw circuit))
    c.keep.ensures.kept (λ steps. quotient_text steps grid) (IsBelow (nat_abs c.args.bound))
    ((rw (over, bound) at c.read_steps.ensures.value) small.some_grid))
