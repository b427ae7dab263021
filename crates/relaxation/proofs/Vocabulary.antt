-- The words that the proofs of this crate have in common.
pub use Rattle.std.proofs.Common.{◌≡◌, ◌<◌, ◌+◌, ◌∙◌, ℕ, List, [], ◌∷◌, ◌++◌, length, get_or, Some, None, sym, subst, ap, refl, arith, suc, ℤ, pos, ◌+ℤ◌, ◌*ℤ◌, ◌≤ℤ◌, ◌<ℤ◌, ◌≢◌, ◌≤◌, map, Option, All, AllPairs, ⊎_elim, ◌⊎◌, inl, inr, eqb, true, Contains, ◌*◌, ◌^◌, Bool, false, if◌then◌else◌, negsuc, ◌-ℤ◌, neg_ℤ, FitsSigned, zero, set, replicate, IfSome, MatchOption, ◌==◌, cond, ◌-◌}
pub use Rattle.std.proofs.lemmas.Bool.{cases_eq, eqb-true, cases_lt, eq-eqb, ne_eqb}
pub use Rattle.std.proofs.lemmas.Int.{ints, to_z-of_z, unsigned_abs-mul, fits_signed_mul, by_lt_z}
pub use Rattle.std.proofs.lemmas.List.{length_push, length-append, length-map, get_or_default, get_or-set_same, get_or-set_other, length-set, get_or-replicate, length-replicate, get_or_read}
pub use Rattle.std.proofs.lemmas.Option.{same_Some, none-some, slice_get_read, slice_get_within, get_or_from_slice_get, slice_get-get_or, slice_get_past}
pub use Rattle.std.specs.Bool.{⊤}
pub use Rattle.std.specs.Int.{w128}
pub use Rattle.std.specs.List.{slice_get, list_any}
pub use Rattle.std.specs.Option.{option_and_then, option_or}
pub use Rattle.std.specs.Prelude.{unsigned_abs, is_some}
pub use Rattle.cts_model.specs.declared.constraint.Constraint.{Constraint}
pub use Rattle.cts_model.specs.Vocabulary.{IsBelow, AreSmallConstraints, IsSmallConstraint}
pub use Rattle.relaxation.specs.Gains.{AdmitsGains, SatisfiesGains, gain_of, total_gain}
pub use Rattle.relaxation.specs.Parents.{parent_of, Climbs, AreParents, EndsClimb, HaveOwnHeads, value_of, ReachesUp}
pub use Rattle.relaxation.specs.Relaxing.{offer_of, GivesMore, GivesNoMore, IsOffer, IsLeft, IsRaised, IsRelaxed, IsFarUp, IsFromZero}
pub use Rattle.relaxation.specs.Rises.{AreRaised, AreRaisedBy}
pub use Rattle.relaxation.specs.Sweeps.{IsReady, IsSwept, IsSweep, IsSweeping, LeavesParents}
pub use Rattle.relaxation.specs.Rounds.{AreSameRounds, HasRisen}
pub use Rattle.relaxation.specs.declared.gains.Gains.{Gains}
pub use Rattle.relaxation.specs.declared.relaxation.Relaxation.{Relaxation}
pub use Rattle.relaxation.specs.declared.rounds.Rounds.{Rounds}
