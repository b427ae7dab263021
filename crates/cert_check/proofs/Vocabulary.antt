-- The words that the proofs of this crate have in common.
pub use Rattle.std.proofs.Common.{◌≡◌, ℕ, ◌<◌, ℤ, pos, ◌*ℤ◌, ◌≤ℤ◌, ◌<ℤ◌, inl, inr, sym, ap, ◌∙◌, arith, ◌↔◌, ◌≤◌, ◌+◌, ◌-◌, ◌*◌, zero, suc, List, [], ◌∷◌, ◌++◌, length, Some, refl, subst, Bool, false, true, map, get_or, Option, None, All, ◌≢◌, ◌^◌, ◌+ℤ◌, take, IsTrue, drop, add-one, drop-cons, ◌-ℤ◌, FitsSigned, of_z, to_z, set, ◌⊎◌, ◌/◌, negsuc, neg_ℤ, if◌then◌else◌, AllPairs, rules}
pub use Rattle.std.proofs.lemmas.Bool.{cases_lt, cases_eq, false≢true, eq-eqb, eqb-true}
pub use Rattle.std.proofs.lemmas.Grind.{common_steps}
pub use Rattle.std.proofs.lemmas.Int.{ints, clamps, by_lt_z, to_z-of_z}
pub use Rattle.std.proofs.lemmas.List.{length-map, get_or-set_same, get_or-set_other, length-set, length-take-le, take_more, get_or_default, drop_all, take_rest, length-append}
pub use Rattle.std.proofs.lemmas.List.Elements.{Contains-append_cases, Contains-append_left, Contains-append_right, All-map, All-set, All-nil, All-cons, All-head, All-tail}
pub use Rattle.std.proofs.lemmas.Option.{slice_get-get_or, slice_get-map, get_or_from_slice_get, slice_get_within, slice_get_past}
pub use Rattle.std.specs.Prelude.{slice_get, IfSome, IsSomeAnd, MatchBool, slice_set, IsErrAnd, Result, Ok, Err, IfOk, nat_abs}
pub use mir.Syntax.{w128}
pub use Rattle.cts_model.proofs.ParentLemmas.{made_parent, one_parent, parent_above, has_parent, parent_stands, joined_by}
pub use Rattle.cts_model.proofs.TopologyLemmas.{merge_at, merge_here, numbers_below-merge, numbers_below-sink, some_and, first_made, second_made}
pub use Rattle.cts_model.specs.declared.circuit.Circuit.{Circuit}
pub use Rattle.cts_model.specs.declared.constraint.Constraint.{Constraint}
pub use Rattle.cts_model.specs.declared.place.Point.{Point}
pub use Rattle.cts_model.specs.declared.place.Sink.{Sink}
pub use Rattle.cts_model.specs.declared.place.Uv.{Uv}
pub use Rattle.cts_model.specs.declared.report.Report.{Report}
pub use Rattle.cts_model.specs.declared.report.Version.TheVariants.{First, Second}
pub use Rattle.cts_model.specs.declared.schedule.Lead.TheVariants.{Zero, Tight}
pub use Rattle.cts_model.specs.declared.tech.Tech.{Tech}
pub use Rattle.cts_model.specs.declared.timing.PairDelay.{PairDelay}
pub use Rattle.cts_model.specs.declared.tree.Merge.{Merge}
pub use Rattle.cts_model.specs.declared.tree.Wire.{Wire}
pub use Rattle.cts_model.specs.Vocabulary.{IsPath, Follows, IsGate, Reads, IsBelow, distance, IsPointBelow, IsUvBelow, rotated, apart, rotated_distance, IsOfCircuit, IsDrawnEdge, IsLongEnough, IsReachShown, IsSkewed, HasShape, HasSlack, MeetsAt, HoldsTogether, GivesPeriod, IsFromFloor, IsBetweenRegisters, HasSmallWeight, HasSmallWeights, ShowsPeriodAmong, count_in, IsOfSize, IsWithinBounds, LeadsAmong, number_at, AtEach, cycle_of, IsShown, IsShownTiming, IsShownTree, sinks_in, source_in, IsConstraintOf, IsHoldConstraint, IsSetupConstraint, count_of, arrival_of, IsBetween, AreApart, IsDrawn, Piece, pieces, total, IsStraight, AreWiresDown, Embedding, embedding_of, total_length, total_wire, span, ShowsMerge, ShowsSource, IsParent, IsTopology, Joins, numbers_below, source_of, IsMerge, root_of}
pub use Rattle.cts_model.specs.declared.problem.Problem.{Problem}
pub use Rattle.path_delays.specs.JoinedPairs.{AreDelaysBetween, IsJoinedBy, IsDelayBetween}
pub use Rattle.cert_check.specs.ComparedSlacks.{AreOneSlack, HasSlackRoom, IsFromZero}
pub use Rattle.cert_check.specs.DrawnParts.{Share, greatest_common, least_common, piece, AreEnds, IsWay}
pub use Rattle.cert_check.specs.EmbeddingParts.{IsOfUnmarked, JoinsAt, StandsAt}
pub use Rattle.cert_check.specs.GivenConstraints.{pair_of, weight_by}
pub use Rattle.cert_check.specs.Judged.{FailsFirst, Judges, Decides, Judged, JudgedOnce, JudgesOnce}
pub use Rattle.cert_check.specs.JudgedReports.{JudgedTree, Shaped, Meets, Earliest, GivenPath, Spares, HasReach, tree_of, OfCircuit, Together, LongEnough, Skewed, Drawn}
pub use Rattle.cert_check.specs.Parents.{AreParents, parent_at}
pub use Rattle.cert_check.specs.ReachParts.{IsLevel, IsMergeShown, IsReachOver, IsSourceShown}
pub use Rattle.cert_check.specs.SmallSinks.{IsSmallSink}
pub use Rattle.cert_check.specs.TightLeads.{IsTested, tight_constraints}
pub use Rattle.cert_check.specs.Verdicts.{IsVerdict, IsVerdictBy}
pub use Rattle.cert_check.specs.declared.verdict.Reason.{Reason}
pub use Rattle.cert_check.specs.declared.verdict.Reason.TheVariants.{TreeShape, BelowFloor, CycleValue, ScheduleMisses, NotLeast, PathBroken, SlackDiffers, Total, Unshown}
pub use Rattle.cert_check.specs.declared.verdict.Stop.{Stop}
pub use Rattle.cert_check.specs.declared.verdict.Stop.TheVariants.{At, NoMemory}
pub use Rattle.cert_check.specs.declared.verdict.Verdict.TheVariants.{Shown, Not}
