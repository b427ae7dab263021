-- What all before hold leaves to the next.
use Rattle.cert_check.proofs.Vocabulary.{◌≡◌, ◌*◌, length, refl, Second, GivesPeriod, IsFromFloor, BelowFloor, CycleValue, ScheduleMisses, TreeShape, SlackDiffers, PathBroken, NotLeast, Shown, Earliest, GivenPath, JudgedTree, Meets, Shaped, Spares, IsVerdictBy}
use Rattle.cert_check.specs.declared.judge.Judge.{Judge}
use Rattle.cert_check.specs.declared.verdict.Verdict.{Verdict}
use Rattle.cert_check.proofs.JudgedLemmas.{kept_shown, last_places, not_shown, passed, stops_after, stops_once, stops_places, tree_then}
use Rattle.cert_check.proofs.checking.judge_all.Goals as goal

-- the verdict on what is judged
abbrev Is : Judge → Verdict → Type 0
Is judge = IsVerdictBy judge.problem.now judge.report.now judge.cycle.now judge.sinks.now
    judge.source

pub returns-in_err-judge_floor : goal.returns-in_err-judge_floor
returns-in_err-judge_floor c =
    let judge = c.args.judge.now in
    stops_once (IsFromFloor judge.problem.now.tech judge.report.now.period) BelowFloor _ (Is judge)
    c.from_residual.result c.in_err-judge_floor.field-0.0 c.from_residual.ensures.1
    c.in_err-judge_floor.ensures (λ verdict judged. judged)

pub returns-in_err-judge_value : goal.returns-in_err-judge_value
returns-in_err-judge_value c =
    let judge = c.args.judge.now in
    stops_once (GivesPeriod judge.problem.now.tech judge.report.now.period
    judge.report.now.shown) CycleValue _ (Is judge) c.from_residual-in_err-judge_value.result
    c.in_err-judge_value.field-0.0 c.from_residual-in_err-judge_value.ensures.1
    c.in_err-judge_value.ensures (λ verdict judged. passed c.in_ok-judge_floor.ensures
    (passed c.in_ok-judge_joins.ensures (passed c.in_ok-judge_constraints.ensures.judges judged)))

pub returns-in_err-judge_schedule : goal.returns-in_err-judge_schedule
returns-in_err-judge_schedule c =
    let judge = c.args.judge.now in
    stops_places (length judge.problem.now.circuit.registers) (Meets judge) ScheduleMisses _
    (Is judge) c.from_residual-in_err-judge_schedule.result c.in_err-judge_schedule.field-0.0
    c.from_residual-in_err-judge_schedule.ensures.1 c.in_err-judge_schedule.ensures
    (λ verdict judged. passed c.in_ok-judge_floor.ensures (passed c.in_ok-judge_joins.ensures
    (passed c.in_ok-judge_constraints.ensures.judges (passed c.in_ok-judge_value.ensures judged))))

pub returns-in_err-judge_shape : goal.returns-in_err-judge_shape
returns-in_err-judge_shape c =
    let judge = c.args.judge.now in
    stops_places (2 * length judge.sinks.now) (Shaped judge) TreeShape _ (Is judge)
    c.from_residual-in_err-judge_shape.result c.in_err-judge_shape.field-0.0
    c.from_residual-in_err-judge_shape.ensures.1 c.in_err-judge_shape.ensures.shape
    (λ verdict judged. passed c.in_ok-judge_floor.ensures (passed c.in_ok-judge_joins.ensures
    (passed c.in_ok-judge_constraints.ensures.judges (passed c.in_ok-judge_value.ensures
    (passed c.in_ok-judge_schedule.ensures judged)))))

pub returns-in_err-judge_tree : goal.returns-in_err-judge_tree
returns-in_err-judge_tree c =
    let judge = c.args.judge.now in
    stops_after (λ verdict. JudgedTree judge verdict (verdict ≡ Shown)) (Is judge)
    c.from_residual-in_err-judge_tree.result c.in_err-judge_tree.field-0.0
    c.from_residual-in_err-judge_tree.ensures.1
    (λ why judged. passed c.in_ok-judge_floor.ensures (passed c.in_ok-judge_joins.ensures
    (passed c.in_ok-judge_constraints.ensures.judges (passed c.in_ok-judge_value.ensures
    (passed c.in_ok-judge_schedule.ensures (passed c.in_ok-judge_shape.ensures.shape
    (tree_then judge (λ other is. is) judged (λ is. absurd (not_shown refl is)))))))))
    c.in_err-judge_tree.ensures

pub returns-in_err-judge_slacks : goal.returns-in_err-judge_slacks
returns-in_err-judge_slacks c =
    let judge = c.args.judge.now in
    stops_places (length judge.problem.now.circuit.registers) (Spares judge) SlackDiffers _
    (Is judge) c.from_residual-in_err-judge_slacks.result c.in_err-judge_slacks.field-0.0
    c.from_residual-in_err-judge_slacks.ensures.1 c.in_err-judge_slacks.ensures
    (λ verdict judged. passed c.in_ok-judge_floor.ensures (passed c.in_ok-judge_joins.ensures
    (passed c.in_ok-judge_constraints.ensures.judges (passed c.in_ok-judge_value.ensures
    (passed c.in_ok-judge_schedule.ensures (passed c.in_ok-judge_shape.ensures.shape
    (tree_then judge (kept_shown verdict) c.in_ok-judge_tree.ensures (λ _. judged))))))))

pub returns-in_err-judge_paths : goal.returns-in_err-judge_paths
returns-in_err-judge_paths c =
    let judge = c.args.judge.now in
    stops_places (length judge.cycle.now) (λ place. judge.report.now.version ≡ Second
    → GivenPath judge place) PathBroken _ (Is judge) c.from_residual-in_err-judge_paths.result
    c.in_err-judge_paths.field-0.0 c.from_residual-in_err-judge_paths.ensures.1
    c.in_err-judge_paths.ensures
    (λ verdict judged. passed c.in_ok-judge_floor.ensures (passed c.in_ok-judge_joins.ensures
    (passed c.in_ok-judge_constraints.ensures.judges (passed c.in_ok-judge_value.ensures
    (passed c.in_ok-judge_schedule.ensures (passed c.in_ok-judge_shape.ensures.shape
    (tree_then judge (kept_shown verdict) c.in_ok-judge_tree.ensures
    (λ _. passed c.in_ok-judge_slacks.ensures judged))))))))

pub returns : goal.returns
returns c =
    let judge = c.args.judge.now in
    last_places (length judge.problem.now.circuit.registers)
    (λ register. judge.report.now.version ≡ Second → Earliest judge register) NotLeast (Is judge)
    c.judge_leads.result c.judge_leads.ensures
    (λ verdict judged. passed c.in_ok-judge_floor.ensures (passed c.in_ok-judge_joins.ensures
    (passed c.in_ok-judge_constraints.ensures.judges (passed c.in_ok-judge_value.ensures
    (passed c.in_ok-judge_schedule.ensures (passed c.in_ok-judge_shape.ensures.shape
    (tree_then judge (kept_shown verdict) c.in_ok-judge_tree.ensures
    (λ _. passed c.in_ok-judge_slacks.ensures (passed c.in_ok-judge_paths.ensures judged)))))))))
