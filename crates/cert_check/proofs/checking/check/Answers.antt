-- What the judge is made of is what the report has.
use Rattle.cert_check.proofs.Vocabulary.{◌≡◌, ◌≤◌, ◌^◌, All, length, subst, sym, ◌∙◌, arith, IsUvBelow, HasSmallWeight, IsBetweenRegisters, IsSmallSink}
use Rattle.cert_check.proofs.JudgeFacts.{cycle_among, cycle_light, cycle_short}
use Rattle.cert_check.proofs.JudgedLemmas.{exactly_said, exactly_shown, shown_verdict, told}
use Rattle.cert_check.proofs.ReachLemmas.{few_registers, sinks_count, small_sinks, source_small}
use Rattle.cert_check.proofs.checking.check.Goals as goal

pub invariant_of-judge : goal.invariant_of-judge
invariant_of-judge c =
    let problem = c.args.problem.now in
    let report = c.args.report.now in
    let size = c.requires.size in
    let bounds = c.requires.bounds in
    let is = sym c.cycle_of.ensures in
    let are = sym (c.as_slice-2.ensures
    ∙ (rw (c.as_slice-places.ensures, c.as_slice.ensures) at c.in_ok-sinks.ensures)) in
    let count = sinks_count problem report size bounds in
    record {
      size = size;
      period = bounds.timing.period;
      weights = bounds.timing.cycle;
      arrivals = bounds.timing.arrivals;
      paths = bounds.timing.paths;
      leads = bounds.timing.leads;
      tree = bounds.tree;
      among = subst (All (IsBetweenRegisters (length problem.circuit.registers))) is
          (cycle_among (length problem.circuit.registers) report.shown size.period_show);
      light = subst (All HasSmallWeight) is (cycle_light report.shown bounds.timing.cycle);
      short = subst (λ cycle. length cycle ≤ 9999) is
          (cycle_short report.shown bounds.timing.cycle);
      shown = c.cycle_of.ensures;
      count = subst (λ sinks. length sinks ≡ length problem.circuit.registers) are count;
      few = subst (λ sinks. length sinks ≤ 4097) are
          (omega (arith, count, few_registers problem.circuit));
      small = subst (All IsSmallSink) are (small_sinks problem report size bounds);
      near = subst (IsUvBelow (10 ^ 31)) (sym c.rotated.ensures)
          (source_small problem report size bounds);
    }

pub returns-in-Ok-clause-verdict : goal.returns-in-Ok-clause-verdict
returns-in-Ok-clause-verdict c =
    rw c.in-Ok.is
    at (told c.args.problem.now c.args.report.now c.judge_all.result c.cycle_of.ensures
    (c.as_slice-2.ensures
    ∙ (rw (c.as_slice-places.ensures, c.as_slice.ensures) at c.in_ok-sinks.ensures))
    c.rotated.ensures c.judge_all.ensures)

pub returns-in-Ok-clause-shown : goal.returns-in-Ok-clause-shown
returns-in-Ok-clause-shown c =
    let judged = rw c.in-Ok.is
    at (told c.args.problem.now c.args.report.now c.judge_all.result c.cycle_of.ensures
    (c.as_slice-2.ensures
    ∙ (rw (c.as_slice-places.ensures, c.as_slice.ensures) at c.in_ok-sinks.ensures))
    c.rotated.ensures c.judge_all.ensures) in
    exactly_shown c.args.problem.now c.args.report.now judged

pub returns-in-Ok-clause-said : goal.returns-in-Ok-clause-said
returns-in-Ok-clause-said c =
    let judged = rw c.in-Ok.is
    at (told c.args.problem.now c.args.report.now c.judge_all.result c.cycle_of.ensures
    (c.as_slice-2.ensures
    ∙ (rw (c.as_slice-places.ensures, c.as_slice.ensures) at c.in_ok-sinks.ensures))
    c.rotated.ensures c.judge_all.ensures) in
    exactly_said c.args.problem.now c.args.report.now judged (c.reports.ensures.said
    c.args.problem.now c.args.report.now c.requires.size c.requires.bounds)

pub returns-in-Ok-clause-least : goal.returns-in-Ok-clause-least
returns-in-Ok-clause-least c =
    let judged = rw c.in-Ok.is
    at (told c.args.problem.now c.args.report.now c.judge_all.result c.cycle_of.ensures
    (c.as_slice-2.ensures
    ∙ (rw (c.as_slice-places.ensures, c.as_slice.ensures) at c.in_ok-sinks.ensures))
    c.rotated.ensures c.judge_all.ensures) in
    λ is. c.reports.ensures.least c.args.problem.now c.args.report.now c.requires.size
    c.requires.bounds (shown_verdict c.args.problem.now c.args.report.now judged is)

pub returns-in-Err-At-clause-verdict : goal.returns-in-Err-At-clause-verdict
returns-in-Err-At-clause-verdict c =
    rw (c.in-Err-At.is, c.in-Err-At.field-0-is)
    at (told c.args.problem.now c.args.report.now c.judge_all.result c.cycle_of.ensures
    (c.as_slice-2.ensures
    ∙ (rw (c.as_slice-places.ensures, c.as_slice.ensures) at c.in_ok-sinks.ensures))
    c.rotated.ensures c.judge_all.ensures)

pub returns-in-Err-At-clause-shown : goal.returns-in-Err-At-clause-shown
returns-in-Err-At-clause-shown c =
    let judged = rw (c.in-Err-At.is, c.in-Err-At.field-0-is)
    at (told c.args.problem.now c.args.report.now c.judge_all.result c.cycle_of.ensures
    (c.as_slice-2.ensures
    ∙ (rw (c.as_slice-places.ensures, c.as_slice.ensures) at c.in_ok-sinks.ensures))
    c.rotated.ensures c.judge_all.ensures) in
    exactly_shown c.args.problem.now c.args.report.now judged

pub returns-in-Err-At-clause-said : goal.returns-in-Err-At-clause-said
returns-in-Err-At-clause-said c =
    let judged = rw (c.in-Err-At.is, c.in-Err-At.field-0-is)
    at (told c.args.problem.now c.args.report.now c.judge_all.result c.cycle_of.ensures
    (c.as_slice-2.ensures
    ∙ (rw (c.as_slice-places.ensures, c.as_slice.ensures) at c.in_ok-sinks.ensures))
    c.rotated.ensures c.judge_all.ensures) in
    exactly_said c.args.problem.now c.args.report.now judged (c.reports.ensures.said
    c.args.problem.now c.args.report.now c.requires.size c.requires.bounds)
