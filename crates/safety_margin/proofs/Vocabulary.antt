-- The words that the proofs of this crate have in common.
pub use Rattle.std.proofs.Common.{◌≡◌, ◌≤◌, ◌*◌, ◌^◌, ◌∙◌, ℕ, ℤ, pos, negsuc, neg_ℤ, ◌*ℤ◌, ◌≤ℤ◌, FitsSigned, ap, arith, ◌+◌, ◌+ℤ◌, ◌-ℤ◌, ◌<ℤ◌, List, [], ◌∷◌, length, get_or, All, Contains, sym, subst, suc, Bool, true, false, if◌then◌else◌, zero, ◌/◌, refl}
pub use Rattle.std.proofs.Math.IntN.{pos-*ℤ-pos}
pub use Rattle.std.proofs.Math.Nat.{mul-le-mul_left, div-mul-le_self, lt-mul-div-succ}
pub use Rattle.std.proofs.lemmas.Int.{ints, to_z-of_z, unsigned_abs-mul, by_lt_z}
pub use Rattle.std.proofs.lemmas.List.Elements.{All-head, All-tail, All-weaker, All-contains, All-contains_itself}
pub use Rattle.std.proofs.lemmas.Nat.{mul-le}
pub use Rattle.std.specs.Int.{w128}
pub use Rattle.std.specs.Prelude.{unsigned_abs, nat_abs}
pub use borrow.Author.Differences.{up, down}
pub use Rattle.critical_cycle.specs.Measures.{SatisfiesRatio, ShowsRatio, CanTry, ForbidsRatios}
pub use Rattle.critical_cycle.specs.RatioSizes.{IsSmallRatio}
pub use Rattle.critical_cycle.specs.declared.measure.Measure.{Measure}
pub use Rattle.cts_base.specs.declared.fraction.Fraction.{Fraction}
pub use Rattle.cts_model.proofs.ScaleLemmas.{size_same}
pub use Rattle.cts_model.specs.declared.constraint.Constraint.{Constraint}
pub use Rattle.cts_model.specs.Vocabulary.{IsBelow, count_of, AreSmallConstraints, total_count, total_weight, IsCycle, Leads, IsMarginPeriod, arrival_of}
pub use Rattle.safety_margin.specs.Margins.{ShowsMargin, Spares, SparesNoMore, HasNoCycle, IsOver, SparesOne}
pub use Rattle.safety_margin.specs.RatioMargins.{IsMarginAt, IsMeasureAt, IsBelowAll}
pub use Rattle.safety_margin.specs.Sharing.{CanSpare, IsSmallMargin, AreGainsAt, IsShare}
pub use Rattle.safety_margin.specs.SparingSchedules.{AreLeastSparing, IsLeastMultiple}
