use Rattle.std.proofs.Common.{◌≡◌, inl, inr, arith}
use Rattle.std.proofs.lemmas.Bool.{cases_lt}
use Rattle.timing_tests.proofs.corner_lists.expect_parallel.Goals as goal

pub loop-place-preserved : goal.loop-place-preserved
loop-place-preserved g c = λ before within. elim (cases_lt before c.loop-place.place) [
  | inl earlier ↦ c.loop-place.invariant before earlier
  | inr later ↦
      let last : before ≡ c.loop-place.place = omega arith in
      rw last c.expect_alike.ensures
]

pub returns : goal.returns
returns g c = record {
  lengths = c.expect_long.ensures;
  alike = λ place within. c.loop-place.invariant place
      (omega (arith, c.loop-place-test.false, within));
}
