-- The lead is the register's.
use Rattle.cert_check.proofs.Vocabulary.{◌≤ℤ◌, pos, rules, subst, sym, ◌∙◌, arith, IsConstraintOf, IsTested, arrival_of}
use Rattle.cts_model.specs.Vocabulary.{ShowsEarliest}
use Rattle.cert_check.proofs.judge.Judge.is_earliest.Goals as goal

pub returns-then-arrival-ge0 : goal.returns-then-arrival-ge0
returns-then-arrival-ge0 c =
    let problem = c.args.self.now.problem.now in
    let report = c.args.self.now.report.now in
    let low : pos 0 ≤ℤ arrival_of report.schedule.at c.args.register = search rules in
    let is = sym c.in-Tight.is ∙ c.lead.ensures.value in
    let tested = subst (λ lead. IsTested problem.circuit problem.tech lead c.args.given) (sym is)
    c.requires.given in
    let some = c.in-Tight.ensures.small.0 in
    let Shows = ShowsEarliest (IsConstraintOf problem.circuit problem.tech) report.period
    report.schedule.at report.leads c.args.register in (
      λ test.
          let led = c.is_led.ensures.0 test in
          record {
            from_zero = low;
            led = subst Shows is (record {
              given = tested.0 led.given;
              head = led.head;
              tight = led.tight;
              depth_is = omega (arith, led.depth_is, some);
            });
          },
      λ earliest.
          let led = subst Shows (sym is) earliest.led in
          c.is_led.ensures.1 (record {
            given = tested.1 led.given;
            head = led.head;
            tight = led.tight;
            depth_is = omega (arith, led.depth_is, some);
          }),
    )
