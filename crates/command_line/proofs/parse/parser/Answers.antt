use Rattle.command_line.proofs.Vocabulary.{◌∙◌, ap₂, sym, new_app, with_rule, Choice, form_name, rule_for}
use Rattle.std.proofs.lemmas.List.Sums.{fold_more}
use Rattle.clap.specs.Words.{App}
use Rattle.command_line.proofs.parse.parser.Goals as goal

pub loop-choice-preserved : goal.loop-choice-preserved
loop-choice-preserved c =
    let step : App → Choice → App = λ app choice. with_rule app (rule_for choice) in
    c.in_ok-parser.ensures.shape c.argument.ensures.local
    ∙ ap₂ with_rule c.loop-choice.invariant c.argument.ensures.rule
    ∙ sym (fold_more step (new_app (form_name c.args.form)) c.row.result.1.now
    c.loop-choice.choice-index _ c.loop-choice-test.true)
