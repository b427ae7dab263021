-- The words that the proofs of this crate have in common.
pub use Rattle.std.proofs.Common.{ℕ, zero, suc, ◌≡◌, ◌<◌, ◌≤◌, ◌+◌, ◌-◌, ◌*◌, ◌^◌, ℤ, pos, negsuc, ◌+ℤ◌, ◌-ℤ◌, ◌*ℤ◌, ◌≤ℤ◌, Bool, true, false, cond, List, All, length, get_or, set, inl, inr, sym, subst, refl, arith, ◌∙◌, ◌<ℤ◌, Contains, true≢false, ap, ◌≢◌, ◌⊎◌, if◌then◌else◌, [], ◌∷◌, replicate, ◌↔◌, nat_eq, FitsSigned, IsTrue, rules}
pub use Rattle.std.proofs.lemmas.Bool.{cases_eq, cases_lt}
pub use Rattle.std.proofs.lemmas.Int.{ints}
pub use Rattle.std.proofs.lemmas.List.{get_or_default, get_or_read, get_or-set_same, get_or-set_other, get_or_append_left, length-set, length-append, get_or-replicate, length-replicate}
pub use Rattle.std.proofs.lemmas.Result.{on_ok_weaker}
pub use Rattle.std.specs.Int.{w128}
pub use Rattle.std.specs.Prelude.{nat_abs}
pub use Rattle.cts_base.specs.declared.fraction.Fraction.{Fraction}
pub use Rattle.cts_model.specs.declared.constraint.Constraint.{Constraint}
pub use Rattle.cts_model.specs.declared.schedule.Lead.TheVariants.{Tight, Zero}
pub use Rattle.cts_model.specs.Vocabulary.{IsBelow, AreSmallConstraints, IsSmallConstraint, Satisfies, count_of, IsTight, IsTightLead, depth_of, lead_at, EachLead, IsLead, arrival_of, AreFromZero, IsSmallPeriod}
pub use Rattle.relaxation.proofs.GainLemmas.{gain_small, kept}
pub use Rattle.relaxation.proofs.RelaxLemmas.{nowhere}
pub use Rattle.relaxation.specs.Gains.{SatisfiesGains, gain_of, AdmitsGains}
pub use Rattle.relaxation.specs.declared.gains.Gains.{Gains}
pub use Rattle.schedule.specs.Gains.{AreGainsOf, AreLeastBy, AreLeastArrivalsBy}
pub use Rattle.schedule.specs.Given.{IsGiven}
pub use Rattle.schedule.specs.Reaching.{IsAdded, IsGrown, IsHanded, IsHandedBy, IsReachKept, IsReached, IsReaching, IsWhole, IsFromReached, unreached}
pub use Rattle.schedule.specs.Tails.{AreTightByTail, IsLastBefore, IsTightFrom}
pub use Rattle.schedule.specs.Rises.{IsRising, CanRaise}
pub use Rattle.schedule.specs.Schedules.{AreWithinWeights, CanSchedule, IsLeastScheduleOf, IsAdmittedBy}
pub use Rattle.schedule.specs.declared.arrivals.Arrivals.{Arrivals}
pub use Rattle.schedule.specs.declared.reach.Reach.{Reach}
