-- Before this place the cycle holds together, and its tails are marked.
use Rattle.std.proofs.Common.{length}
use Rattle.cert_check.proofs.TailLemmas.{IsWalked}
use Rattle.cert_check.proofs.judge.Judge.judge_joins.Given as goal

abbrev pub invariant-loop-place : goal.invariant-loop-place
invariant-loop-place l = IsWalked (length l.self.problem.now.circuit.registers)
    l.self.cycle.now l.place
    l.seen.items
