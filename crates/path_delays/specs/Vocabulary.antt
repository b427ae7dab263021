-- The words that the contracts of this crate have in common.
pub use Rattle.std.specs.Int.{int_min, int_max}
pub use Rattle.std.specs.Option.{option_and_then, option_to_list, option_map, option_map_or}
pub use Rattle.cts_model.specs.declared.circuit.Circuit.{Circuit}
pub use Rattle.cts_model.specs.declared.tech.Tech.{Tech}
pub use Rattle.cts_model.specs.Vocabulary.{is_gate, is_valid, Reads, IsBelow, ArePathsWithin, IsConstraintOf, JoinsMoreThan}
pub use Rattle.cts_model.specs.table.Tables.{IsWithin}
pub use Rattle.gate_order.specs.LevelParts.{IsLevelsOf}
pub use Rattle.path_delays.specs.Captured.{AreCapturedBy}
pub use Rattle.path_delays.specs.Capturings.{IsCapture, IsFoundIn, ListsCaptures, registers_of, AreGathered, HasCaptureRoom, IsCapturingOf, AreAllReached}
pub use Rattle.path_delays.specs.Carrying.{AreLaunchedBy, AreExtremesIfAny, StandsAt}
pub use Rattle.path_delays.specs.CyclePaths.{FitsRoom, IsPathWithin, IsReachedAlong, AreReachedAlong, KeepsPaths, pair_of}
pub use Rattle.path_delays.specs.ExtremePaths.{IsExtremeIfAny, IsFurthestIfAny, extreme_of}
pub use Rattle.path_delays.specs.Handing.{IsBounded, most_of, rank_at, CanHandOn, HasReachRoom, HasRoomAt, IsCleared, IsHanded, IsHandedOn, IsMarked, IsSameRoom, lanes_at, limit_of, sums_at}
pub use Rattle.path_delays.specs.JoinedPairs.{AreDelaysBetween, IsJoinedBy, ListsPairsBefore, ArePairs, ShowsTooMany, MeetsLimit, pair_limit}
pub use Rattle.path_delays.specs.LaneParts.{AllBounded, lane_of}
pub use Rattle.path_delays.specs.LaneTables.{AreBoundedAmong, lane_among, CanHand, IsJoined, IsMerged, IsPassed, lane_in, rows_of, table_limit}
pub use Rattle.path_delays.specs.NarrowParts.{narrow_limit, wide_lanes}
pub use Rattle.path_delays.specs.Networks.{gate_sums, AreCapturedUpTo, AreInputs, AreAllReads, AreRanks, IsNetworkOf, all_reads_by}
pub use Rattle.path_delays.specs.NumberSets.{has_number}
pub use Rattle.path_delays.specs.SumParts.{AreWithin, delay_limit, no_sums, some_sums, either_sums, merged_sums, sums_through, AreBounded}
pub use Rattle.path_delays.specs.WalkParts.{AreMerged, IsRoomFor, HasRanksOf, HasReachBetween, ReachesEach, sums_to, HasReach, HaveReachBetween}
pub use Rattle.path_delays.specs.Walking.{HaveReachedUpTo, IsSpreadBelow}
pub use Rattle.path_delays.specs.WindowParts.{AreBelow, AreCaptures, AreLaunched, ArePassed, IsGateWindow, either_window, start_window, sums_in, sums_of, window_at, window_limit, merged_windows, window_after}
pub use Rattle.path_delays.specs.Windows.{AreWindows, IsSmallSchedule, IsWindowBelow}
pub use Rattle.path_delays.specs.declared.lanes.Lanes.{Lanes}
pub use Rattle.path_delays.specs.declared.walk.Walk.{Walk}
pub use Rattle.path_delays.specs.declared.window.Window.{Window}
