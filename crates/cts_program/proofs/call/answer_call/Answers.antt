use Rattle.std.proofs.Common.{◌≡◌, drop, ap, ◌∙◌}
use Rattle.cts_program.proofs.call.answer_call.Goals as goal

pub returns-in-Ok-clause-reported : goal.returns-in-Ok-clause-reported
returns-in-Ok-clause-reported g c =
    let suffix : c.after_name.result.now ≡ drop 1 c.in-Ok.words.items =
    c.after_name.ensures ∙ ap (drop 1) c.deref.ensures.value in
    rw (c.in-Ok.is, c.from.ensures, ← suffix) c.run.ensures.reported

pub returns-in-Ok-clause-given : goal.returns-in-Ok-clause-given
returns-in-Ok-clause-given g c =
    let suffix : c.after_name.result.now ≡ drop 1 c.in-Ok.words.items =
    c.after_name.ensures ∙ ap (drop 1) c.deref.ensures.value in
    rw (c.in-Ok.is, c.from.ensures, ← suffix) c.run.ensures.given
