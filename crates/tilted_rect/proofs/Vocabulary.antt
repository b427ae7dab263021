-- The words that the proofs of this crate have in common.
pub use Rattle.std.proofs.Common.{◌≡◌, ◌↔◌, ◌<ℤ◌, Option, Some, None, ◌*◌, ◌^◌, List, [], ◌∷◌, ◌++◌, ℤ, pos, ◌+ℤ◌, ◌-ℤ◌, ◌≤ℤ◌, refl, sym, subst, arith, FitsSigned, ap, ◌∙◌, inl, inr, ℕ, ◌*ℤ◌, ◌⊎◌, int_div, true, false, cond, int_lt, rules}
pub use Rattle.std.proofs.lemmas.Int.{ints, clamps, to_z-of_z, by_lt_z}
pub use Rattle.std.proofs.lemmas.List.Elements.{All-contains, All-append, All-nil, All-cons, Contains-append_left, Contains-append_right, Contains-append_cases}
pub use Rattle.std.specs.Int.{int_max, w128, int_min}
pub use Rattle.std.specs.List.{Contains, All}
pub use Rattle.cts_model.proofs.ScaleLemmas.{scale_le, scale-max, scale-sub, scale-add, scale-apart}
pub use Rattle.cts_model.specs.declared.place.Sink.{Sink}
pub use Rattle.cts_model.specs.declared.place.Uv.{Uv}
pub use Rattle.cts_model.specs.Vocabulary.{IsBelow, IsMultipleOf, apart, rotated_distance, scaled, rotated, IsUvMultipleOf, IsDoubleReach, IsUnion, span, IsGreatestSpan, InRegion, MeetTwoByTwo}
pub use Rattle.tilted_rect.specs.Corners.{bound, IsSide, IsRect}
pub use Rattle.tilted_rect.specs.Extremes.{IsGreatest, IsLeastOf, u_above, u_below, v_above, v_below, Extremes, IsExtremes, joined, spread, joined_twice, HasExtremeSides, IsRegion, IsGrown, IsMeeting, AreMultiplesOf, AreSidesMultiples, IsBetween}
pub use Rattle.tilted_rect.specs.Intervals.{between, clamped}
pub use Rattle.tilted_rect.specs.Rects.{HasSides, CanGrowBy, gap_of, Holds, HoldBoth, IsNear, IsLeastDistance, clamped_into, IsNearest}
pub use Rattle.tilted_rect.specs.declared.rect.Rect.{Rect}
