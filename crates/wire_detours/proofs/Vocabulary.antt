-- The words that the proofs of this crate have in common.
pub use Rattle.std.proofs.Common.{◌≡◌, ◌^◌, ℤ, pos, ◌+ℤ◌, ◌-ℤ◌, ◌≤ℤ◌, ◌<ℤ◌, FitsSigned, sym, subst, arith, ◌≢◌, [], ◌∷◌, All, AllPairs, Some, inl, inr, refl, ap, ℕ, ◌<◌, ◌*ℤ◌, ◌∙◌, ◌⊎◌, zero, suc, ◌≤◌, take, replicate, rules}
pub use Rattle.std.proofs.lemmas.Int.{ints, clamps, by_lt_z}
pub use Rattle.std.proofs.lemmas.List.Elements.{All-nil, All-cons}
pub use Rattle.cts_model.specs.declared.place.Point.{Point}
pub use Rattle.cts_model.specs.Vocabulary.{IsBelow, IsMultipleOf, distance, apart, Piece, pieces, total, IsStraight, AreApart, IsDrawn, IsBetween, IsOn, ArePadded}
pub use Rattle.wire_detours.specs.WirePoints.{at, bent, under, over, beside, round, HasDetour, ArePoints, origin, shown}
