-- The words that the proofs of this crate have in common.
pub use Rattle.std.proofs.Common.{◌≡◌, ◌<◌, ◌≤◌, ◌+◌, ◌∙◌, ℕ, ℤ, List, [], ◌∷◌, ◌++◌, length, get_or, Option, Some, None, inl, inr, refl, sym, ap, subst, arith, zero, suc, take, ◌≤ℤ◌, Bool, true, false, cond, to_z, of_z, ◌<ℤ◌, pos, ◌*ℤ◌, ◌↔◌, ◌+ℤ◌}
pub use Rattle.std.proofs.Math.Seq.{get_or-append_seam}
pub use Rattle.std.proofs.lemmas.Bool.{cases_lt}
pub use Rattle.std.proofs.lemmas.Int.{ints, clamps}
pub use Rattle.std.proofs.lemmas.List.{get_or_append_left, get_or_default, length-append, take_more, get_or-set_same, get_or-set_other, length-set, take_all, get_or-take, length-take-le}
pub use Rattle.std.proofs.lemmas.List.Elements.{All-get_or, All-head, All-tail, filter_map-append, All-nil, All-cons, All-append, All-contains_itself, All-from_get_or, All-weaker}
pub use Rattle.std.proofs.lemmas.Option.{slice_get_within, slice_get-get_or, same_Some, get_or_from_slice_get}
pub use Rattle.std.specs.Int.{int_max, w128}
pub use Rattle.std.specs.List.{All, slice_get, cons_option, filter_map, Any}
pub use Rattle.std.specs.Prelude.{IsSomeAnd, MatchBool, nat_abs}
pub use Rattle.critical_cycle.specs.Floors.{IsSmallFloor}
pub use Rattle.cts_model.proofs.ScaleLemmas.{scale_le, size_same}
pub use Rattle.cts_model.specs.declared.circuit.Circuit.{Circuit}
pub use Rattle.cts_model.specs.declared.constraint.Constraint.{Constraint}
pub use Rattle.cts_model.specs.declared.tech.Tech.{Tech}
pub use Rattle.cts_model.specs.declared.timing.PairDelay.{PairDelay}
pub use Rattle.cts_model.specs.Vocabulary.{IsConstraintOf, Satisfies, IsSetupConstraint, IsHoldConstraint, IsSatisfied, AreSmallConstraints}
pub use Rattle.corners.specs.CommonPeriods.{MeetsEach, AreLeastCommonArrivals, HasNoCommonPeriod, IsAboveFloors, IsCommonPeriod, IsLeastCommonPeriod}
pub use Rattle.corners.specs.CornerConstraints.{AreCommonConstraints, AreConstraintsBy, IsCombined, IsGreatestOf}
pub use Rattle.corners.specs.CornerCycles.{IsConstraintIn, IsOfCorner, AreOfCorners, IsCommonCritical, IsCommonForbidding, IsGreatestFloor}
pub use Rattle.corners.specs.CornerLists.{AreAlike, AreCorners, AreParallel, constraint_at, list_of, no_constraint}
pub use Rattle.corners.specs.GreatestWeights.{weight_at, IsGreatestAt, IsCombinedAt}
pub use Rattle.corners.specs.NamedPlaces.{AreNamedAt}
pub use Rattle.corners.specs.declared.fold.Combined.{Combined}
