use Rattle.std.proofs.Common.{◌∙◌}
use Rattle.cts_program.proofs.answers.margin.Goals as goal

pub returns-clause-text : goal.returns-clause-text
returns-clause-text c = (
  c.done.ensures.ending,
  record {
    period = c.fraction-period.result;
    given = c.fraction-period.ensures.spelled;
    outcome = c.in_ok-outcome.outcome;
    greatest = c.in_ok-outcome.ensures.ok;
    spelled = c.done.ensures.text ∙ c.in_ok-text.ensures;
  },
)
