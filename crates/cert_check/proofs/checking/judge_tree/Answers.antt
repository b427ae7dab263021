-- What all before hold leaves to the next.
use Rattle.cert_check.proofs.Vocabulary.{◌≡◌, ◌*◌, length, total_wire, Total, Unshown, Shown, HasReach, JudgedTree, tree_of}
use Rattle.cert_check.proofs.JudgedLemmas.{last_once, passed, stops_places}
use Rattle.cert_check.proofs.checking.judge_tree.Goals as goal

pub returns-in_err-judge_reaches : goal.returns-in_err-judge_reaches
returns-in_err-judge_reaches c =
    let judge = c.args.tree.now.judge in
    stops_places (2 * length judge.sinks.now) (HasReach judge) Unshown _
    (λ verdict. JudgedTree judge verdict (verdict ≡ Shown))
    c.from_residual-in_err-judge_reaches.result c.in_err-judge_reaches.field-0.0
    c.from_residual-in_err-judge_reaches.ensures.1 c.in_err-judge_reaches.ensures
    (λ verdict judged. passed c.in_ok-judge_lengths.ensures (passed c.in_ok-judge_wires.ensures
    (passed c.in_ok-judge_skews.ensures judged)))

pub returns : goal.returns
returns c =
    let judge = c.args.tree.now.judge in
    last_once (judge.report.now.total ≡ total_wire (length judge.sinks.now) (tree_of judge)) Total
    (λ verdict. JudgedTree judge verdict (verdict ≡ Shown)) c.judge_total.result
    c.judge_total.ensures (λ verdict judged. passed c.in_ok-judge_lengths.ensures
    (passed c.in_ok-judge_wires.ensures (passed c.in_ok-judge_skews.ensures
    (passed c.in_ok-judge_reaches.ensures judged))))
