use Rattle.std.proofs.Common.{refl, sym, subst, ◌≡◌, inl, inr, List, ℕ}
use Rattle.cts_model.specs.Vocabulary.{Spells}
use Rattle.cts_model.specs.declared.problem.Problem.{Problem}
use Rattle.cts_model.specs.declared.report.Report.{Report}
use Rattle.cert_check.specs.Verdicts.{IsVerdict}
use Rattle.cert_check.specs.declared.verdict.Reason.{Reason}
use Rattle.cert_check.specs.declared.verdict.Verdict.TheVariants.{Shown, Not}
use Rattle.cert_check.proofs.JudgedLemmas.{exactly_shown}
use Rattle.cts_c.specs.Findings.{IsShownReport}
use Rattle.cts_c.proofs.checking.judge.Goals as goal

pub returns-in-Shown-clause-judged : goal.returns-in-Shown-clause-judged
returns-in-Shown-clause-judged c = record {
  short = c.is_short.ensures.0 c.if-not-is_short.false;
  report = c.in-Ok.report;
  spelled = c.in-Ok.ensures.ok;
  shown = rw c.in-Shown.is at c.in_ok-check.ensures.verdict;
  least = c.in_ok-check.ensures.least c.in-Shown.is;
}

pub returns-in-Shown-clause-shown : goal.returns-in-Shown-clause-shown
returns-in-Shown-clause-shown c = (λ same. returns-in-Shown-clause-judged c, λ is. refl)

pub returns-clause-judged : goal.returns-clause-judged
returns-clause-judged c = record {
  short = c.is_short.ensures.0 c.if-not-is_short.false;
  report = c.in-Ok.report;
  spelled = c.in-Ok.ensures.ok;
  verdict = rw c.in-Not.is at c.in_ok-check.ensures.verdict;
}

-- a text that spells a report against which a reason stands spells none that is shown
not_shown : (problem : Problem) (text : List ℕ) (report : Report) (reason : Reason)
    → ((other : Report) → Spells problem.circuit problem.tech text other → report ≡ other)
    → IsVerdict problem report (Not reason) → IsShownReport problem text → ⊥
not_shown problem text report reason one verdict is =
    let shown = subst (λ r. IsVerdict problem r Shown) (sym (one is.report is.spelled)) is.shown in
    cc ((exactly_shown problem report verdict).1 ((exactly_shown problem report shown).0 refl))

pub returns-clause-shown : goal.returns-clause-shown
returns-clause-shown c = (
  λ same. cc same,
  λ is. absurd (not_shown c.args.problem.now c.args.text.now c.in-Ok.report c.in-Not.reason
      (λ other spelled. elim (c.in-Ok.ensures.read other spelled) [
        | inl same ↦ cc same
        | inr none ↦ cc none
      ]) (rw c.in-Not.is at c.in_ok-check.ensures.verdict) is),
)
