use Rattle.delay_tables.proofs.Vocabulary.{◌∙◌, sym, arith, err_from_is_err_and, table_view, texts, key_of}
use Rattle.cts_model.specs.table.TableFlaws as flaws
use Rattle.delay_tables.proofs.Judgements.{fault_next, fault_here, flaws_more}
use Rattle.delay_tables.proofs.walk.judge_section.Goals as goal

pub returns-in_err-judge_key : goal.returns-in_err-judge_key
returns-in_err-judge_key c =
    let p = err_from_is_err_and c.from_residual-in_err-judge_key.result
    c.from_residual-in_err-judge_key.ensures.1 in
    let more =
    flaws_more key_of (flaws.key_flaw (texts c.args.way.now) (table_view c.args.document.now))
    c.args.keys.now c.loop-key.key-index _ (omega arith) in
    rw (p.1, p.2)
    (fault_next _ _ _ c.in_ok-judge_way.ensures
    (fault_here _ _ _ _ (sym c.loop-key.invariant ∙ more) c.in_err-judge_key.ensures))
