use Rattle.command_line.proofs.Vocabulary.{◌≡◌, take, fold, app_of, new_app, with_rule, form_name, rule_for}
use Rattle.command_line.proofs.parse.parser.Given as goal

-- the parser has the options that were passed
abbrev pub invariant-loop-choice : goal.invariant-loop-choice
invariant-loop-choice l = app_of l.parser ≡ fold (λ app choice. with_rule app (rule_for choice))
    (new_app (form_name l.fn.form)) (take l.choice-index l.choices)
