-- The words that the contracts of this crate have in common.
pub use Rattle.std.proofs.Props.{props}
pub use Rattle.cts_model.specs.Vocabulary.{IsOfSize, IsWithinBounds, ShowsWhatItSays, IsShown, ShowsLeast, cycle_of, HoldsTogether, next_place, is_gate, is_valid, IsGate, IsBelow, AreApart, IsDrawn, IsStraight, pieces, total, IsPointBelow, IsSmallWire, GivesWeight, IsUvBelow, HasSmallWeight, IsBetweenRegisters, IsSmallLead, IsSmallPeriod, count_of, IsLedBy, IsTight, depth_of, lead_at, LeadsAmong, arrival_of, IsOfCircuit, IsSmallPair, Captures, IsPath, Launches, Reads, total_count, total_weight, GivesPeriod, IsFromFloor, AreWiresDown, embedding_of, total_length, total_wire, number_at, IsTopology, source_of, rotated, apart, rotated_distance, span, ShowsAmong, ShowsMerge, ShowsSource, numbers_below, root_of}
pub use Rattle.cts_model.specs.declared.report.Version.TheVariants.{Second}
pub use Rattle.cts_model.specs.table.Tables.{IsWithin}
pub use Rattle.path_delays.specs.JoinedPairs.{AreDelaysBetween}
pub use Rattle.cert_check.specs.ComparedSlacks.{AreOneSlack, HasSlackRoom, IsFromZero}
pub use Rattle.cert_check.specs.CyclePlaces.{AreTailsBefore}
pub use Rattle.cert_check.specs.DrawnParts.{AreEnds, IsFree, IsWay, Share, greatest_common, least_common, piece}
pub use Rattle.cert_check.specs.EmbeddingParts.{IsOfUnmarked, JoinsAt, StandsAt}
pub use Rattle.cert_check.specs.GivenConstraints.{pair_of, path_weight, weight_by}
pub use Rattle.cert_check.specs.Judged.{Decides, Judges, JudgesOnce}
pub use Rattle.cert_check.specs.JudgedReports.{Drawn, Earliest, GivenPath, HasPaths, HasReach, HasSlacks, JudgedTree, LongEnough, Meets, OfCircuit, Shaped, Skewed, Spares, Together, tree_of}
pub use Rattle.cert_check.specs.Parents.{AreParents}
pub use Rattle.cert_check.specs.ReachParts.{IsMergeShown, IsReachOver, IsSourceShown}
pub use Rattle.cert_check.specs.SmallSinks.{IsSmallSink}
pub use Rattle.cert_check.specs.TightLeads.{FitsLeads, IsTested, constraint_of, tight_constraints}
pub use Rattle.cert_check.specs.Verdicts.{IsVerdict, IsVerdictBy}
pub use Rattle.cert_check.specs.WalkedPaths.{LeadsTo, delay_by, gate_delay_by, through_by}
pub use Rattle.cert_check.specs.declared.verdict.Reason.TheVariants.{BelowFloor, CycleBroken, CycleValue, NotLeast, NotOfCircuit, PathBroken, ScheduleMisses, SkewDiffers, SlackDiffers, TooShort, Total, TreeShape, Unshown, WireSum}
pub use Rattle.cert_check.specs.declared.verdict.Verdict.{Verdict}
