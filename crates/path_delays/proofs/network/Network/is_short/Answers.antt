-- One delay more, and all of them.
use Rattle.path_delays.proofs.Vocabulary.{◌≡◌, ◌-ℤ◌, ◌≤ℤ◌, pos, false, List, length, refl, sym, ap, subst, arith, int_max, w64, lt_z, slice_index_or, ints, take_all, Sums, AreWithin, delay_limit, no_delay}
use Rattle.std.proofs.Common.{to_z, of_z}
use Rattle.std.proofs.Math.Facts.{sfits_to_z}
use Rattle.path_delays.proofs.Rooms.{IsLeftAfter-more}
use Rattle.path_delays.proofs.SumLemmas.{max_cases}
use Rattle.path_delays.proofs.network.Network.is_short.Goals as goal

pub loop-delay-init : goal.loop-delay-init
loop-delay-init c = record { above = omega (arith, ints); sum = refl }

pub loop-delay-preserved : goal.loop-delay-preserved
loop-delay-preserved c =
    let delays = c.as_slice-delay-items.result.now in
    let passed = c.loop-delay.delay-index in
    let left = to_z w64 c.loop-delay.left-bits in
    let most = c.max-most.result in
    let delay = slice_index_or delays passed no_delay in
    let within : AreWithin delay_limit delay =
    subst (λ (list : List Sums). AreWithin delay_limit (slice_index_or list passed no_delay))
    (sym c.as_slice-delay-items.ensures.value) (c.requires passed no_delay
    (omega (arith, c.loop-delay-test.true, ap length c.as_slice-delay-items.ensures.value))) in
    let least : to_z w64 (of_z w64 delay.least) ≡ delay.least =
    omega (arith, ints, within.least.above, within.least.below) in
    let greatest : to_z w64 (of_z w64 delay.greatest) ≡ delay.greatest =
    omega (arith, ints, within.greatest.above, within.greatest.below) in
    let read : most ≡ int_max delay.least delay.greatest =
    rw (least, greatest) at c.max-most.ensures.value in
    let kept : to_z w64 (of_z w64 most) ≡ most = omega (arith, ints, c.max-most.type_inv) in
    let above : pos 0 ≤ℤ most = omega (
      arith,
      ints,
      read,
      (max_cases delay.least delay.greatest).1,
      within.least.above,
    ) in
    let over : lt_z left most ≡ false = rw kept at c.if-most-left.false in
    let room : most ≤ℤ left = grind (arith, ints, over) in
    let rest : to_z w64 (of_z w64 (left -ℤ most)) ≡ left -ℤ most =
    omega (arith, ints, above, room, sfits_to_z c.loop-delay.auto.left) in
    let next = IsLeftAfter-more delays passed left most no_delay c.loop-delay-test.true within read
    room c.loop-delay.invariant in
    rw (kept, rest) next

pub returns : goal.returns
returns c all = grind (arith, ints, take_all)
