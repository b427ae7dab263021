-- The leads so far show that nothing is earlier, and so many of their constraints are passed.
use Rattle.cert_check.proofs.Vocabulary.{◌≡◌, ◌≤◌, AtEach, Earliest}
use Rattle.cert_check.proofs.TightLemmas.{tight_before}
use Rattle.cert_check.proofs.judge.Judge.judge_leads.Given as goal

abbrev pub invariant-loop-register : goal.invariant-loop-register
invariant-loop-register l = record {
  passed : l.tight ≡ tight_before l.self.report.now.leads l.register;
  few : l.tight ≤ l.register;
  each : AtEach l.register (Earliest l.self);
}
