-- The words that the proofs of this crate have in common.
pub use mir.Syntax.{w128}
pub use Rattle.std.proofs.Common.{to_z, of_z, ℕ, ◌≡◌, ◌<◌, Bool, true, false, Some, None, List, length, get_or, All, sym, ◌∙◌, ap, arith, inl, inr, ℤ, ◌≤ℤ◌, ◌<ℤ◌, subst, ◌+ℤ◌, ◌≤◌, ◌+◌, if◌then◌else◌, refl, pos, negsuc, ◌*ℤ◌, [], ◌∷◌, ◌++◌, Option, IsSomeAnd, ◌-ℤ◌, ◌*◌, ◌^◌}
pub use Rattle.std.proofs.lemmas.Bool.{cases_lt}
pub use Rattle.std.proofs.lemmas.Int.{ints}
pub use Rattle.std.proofs.lemmas.Option.{slice_get_within, slice_get-get_or, get_or_from_slice_get}
pub use Rattle.std.specs.List.{slice_get}
pub use Rattle.std.specs.Prelude.{nat_abs}
pub use Rattle.cts_model.specs.declared.circuit.Circuit.{Circuit}
pub use Rattle.cts_model.specs.declared.tech.Tech.{Tech}
pub use Rattle.cts_model.specs.declared.timing.PairDelay.{PairDelay}
pub use Rattle.cts_model.specs.table.Tables.{IsWithin}
pub use Rattle.cts_model.specs.Vocabulary.{IsPath, least_delay, greatest_delay, IsBelow, IsSmallPair, ListsPairs, HasSmallDelays, setup_spare, hold_spare, IsLeastSpare, IsSlackOf, IsSlack, AreSlacks, AreSmallSlacks}
pub use Rattle.path_delays.proofs.WindowLemmas.{moved, pushed_cases, kept, kept_time, kept_ticks}
pub use Rattle.timing_report.specs.ListedPairs.{IsFirstOf, IsTooQuick, IsEnoughForAll, IsFloorForAll, IsMostNeeded, Needs, IsZeroSkewOf}
pub use Rattle.timing_report.specs.SpareTicks.{setup_ticks, hold_ticks, IsTicks, IsSlackAt, AreSlacksBefore}
