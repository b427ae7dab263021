-- No sum is beyond 64 bits, where there are sums and where there are none.
use Rattle.std.proofs.Common.{rules, inl, inr}
use Rattle.path_delays.proofs.sums.Sums.through.Goals as goal

pub returns : goal.returns
returns c = elim c.requires.sums [ inl within ↦ search rules | inr missing ↦ search rules ]
