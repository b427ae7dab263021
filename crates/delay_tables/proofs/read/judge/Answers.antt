use Rattle.delay_tables.proofs.Vocabulary.{refl, err_from_is_err_and, table_flaw}
use Rattle.delay_tables.proofs.Judgements.{fault_first, fault_next, judges_next}
use Rattle.delay_tables.proofs.read.judge.Goals as goal

pub returns-in_err-judge_keys : goal.returns-in_err-judge_keys
unfolding table_flaw
returns-in_err-judge_keys c =
    let p = err_from_is_err_and c.from_residual.result c.from_residual.ensures.1 in
    rw (p.1, p.2) (fault_first _ _ _ c.in_err-judge_keys.ensures)

pub returns-in_err-judge_order : goal.returns-in_err-judge_order
unfolding table_flaw
returns-in_err-judge_order c =
    let p = err_from_is_err_and c.from_residual-in_err-judge_order.result
    c.from_residual-in_err-judge_order.ensures.1 in
    rw (p.1, p.2)
    (fault_next _ _ _ c.in_ok-judge_keys.ensures (fault_first _ _ _ c.in_err-judge_order.ensures))

pub returns-in_err-judge_kinds : goal.returns-in_err-judge_kinds
unfolding table_flaw
returns-in_err-judge_kinds c =
    let p = err_from_is_err_and c.from_residual-in_err-judge_kinds.result
    c.from_residual-in_err-judge_kinds.ensures.1 in
    rw (p.1, p.2)
    (fault_next _ _ _ c.in_ok-judge_keys.ensures
    (fault_next _ _ _ c.in_ok-judge_order.ensures (fault_first _ _ _ c.in_err-judge_kinds.ensures)))

pub returns : goal.returns
unfolding table_flaw
returns c =
    judges_next c.judge_names.result _ _ _ refl c.in_ok-judge_keys.ensures
    (judges_next c.judge_names.result _ _ _ refl c.in_ok-judge_order.ensures
    (judges_next c.judge_names.result _ _ _ refl c.in_ok-judge_kinds.ensures c.judge_names.ensures))
