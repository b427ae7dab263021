-- The words that the proofs of this crate have in common.
pub use Rattle.std.proofs.Common.{◌≡◌, ◌+◌, ◌*◌, ℤ, pos, ◌-ℤ◌, ◌*ℤ◌, ap, arith, ℕ, ◌≤◌, ◌^◌, Bool, true, false, if◌then◌else◌, negsuc, neg_ℤ, ◌+ℤ◌, ◌≤ℤ◌, ◌<ℤ◌, List, [], ◌∷◌, length, get_or, refl, sym, ◌∙◌, subst, to_z, of_z, All, Contains, ◌<◌, suc, FitsSigned, zero, ◌++◌, take, drop, ◌≢◌, ◌-◌, set, Some, AllPairs, Option, None, ◌/◌, ⊎_elim, true≢false, rules}
pub use Rattle.std.proofs.Math.Nat.{mul-le-mul_left, div-mul-le_self}
pub use Rattle.std.proofs.lemmas.Bool.{cases_lt}
pub use Rattle.std.proofs.lemmas.Int.{ints, unsigned_abs-mul, by_lt_z, to_z-of_z}
pub use Rattle.std.proofs.lemmas.List.{length-set, length-append, length-drop, drop-set, drop_all, take_more, length-take, drop_more, take-append-drop, get_or_append_left, get_or-append-add, get_or-append_right, length-replicate, with_items_is}
pub use Rattle.std.proofs.lemmas.List.Elements.{All-contains_itself, All-nil, All-cons, All-head, All-tail, All-take, filter_map-append, All-append, All-drop, All-from_get_or}
pub use Rattle.std.proofs.lemmas.List.Sums.{sum_by-cons, sum_by-append}
pub use Rattle.std.proofs.lemmas.Nat.{mul-le, le-div}
pub use Rattle.std.proofs.lemmas.Option.{slice_get-get_or, slice_get_within, get_or_from_slice_get}
pub use Rattle.std.specs.List.{cons_option}
pub use Rattle.std.specs.Prelude.{nat_abs, ◌↔◌, unsigned_abs, slice_get, MatchOption, slice_index}
pub use Rattle.std.specs.Vec.{with_items}
pub use borrow.Author.Differences.{up, down}
pub use mir.Syntax.{w128}
pub use Rattle.cts_base.specs.declared.fraction.Fraction.{Fraction}
pub use Rattle.cts_model.specs.declared.constraint.Constraint.{Constraint}
pub use Rattle.cts_model.specs.Vocabulary.{IsBelow, count_of, Satisfies, AreSmallConstraints, total_weight, total_count, IsLeastPeriodOf, ShowsPeriod, Leads, IsCycle}
pub use Rattle.relaxation.proofs.GainLemmas.{kept, below_size, product_read, size_within}
pub use Rattle.relaxation.specs.Gains.{SatisfiesGains, gain_of, total_gain}
pub use Rattle.relaxation.specs.Parents.{AreParents, EndsClimb, parent_of, Climbs, value_of}
pub use Rattle.relaxation.specs.declared.gains.Gains.{Gains}
pub use Rattle.critical_cycle.specs.CyclePlaces.{AreWithin, constraints_at, IsFromLowest, tail_at}
pub use Rattle.critical_cycle.specs.Measures.{CanTry, IsTrialAt, SatisfiesRatio, measured_count, cycle_count, cycle_weight, measured_weight, ShowsRatio}
pub use Rattle.critical_cycle.specs.Periods.{HasForbidding, HasSmallValue, IsFloor, IsForbidden, IsNeverPeriod, IsPeriodOf, IsShownPeriod, period_of}
pub use Rattle.critical_cycle.specs.Raises.{IsRaisedTo, NeverCounts, IsRaise}
pub use Rattle.critical_cycle.specs.RatioSizes.{most_weight}
pub use Rattle.critical_cycle.specs.Ratios.{IsForbiddenBy, IsRatioOf, IsShownRatio}
pub use Rattle.critical_cycle.specs.Searches.{IsSameSearch}
pub use Rattle.critical_cycle.specs.ShownRatios.{IsNeverShown, IsValueShown, IsGreatestShown, IsNeverAtAll, IsSettled, IsShown, raises_left, steps_below}
pub use Rattle.critical_cycle.specs.declared.measure.Measure.{Measure}
