use Rattle.timing_report.proofs.MostDelayedPairs.{IsMostSoFar}
use Rattle.timing_report.proofs.equal_arrivals.zero_skew_of.Given as goal

abbrev pub invariant-loop-pair : goal.invariant-loop-pair
invariant-loop-pair l = IsMostSoFar l.tech.hold l.pairs l.pair-index l.most
