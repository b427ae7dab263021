-- The words that the contracts of this crate have in common.
pub use Rattle.cts_model.specs.Vocabulary.{IsBelow, AreSmallConstraints, IsCycle, IsLeastPeriodOf}
pub use Rattle.cts_model.specs.declared.constraint.Constraint.{Constraint}
pub use Rattle.relaxation.specs.Gains.{total_gain}
pub use Rattle.relaxation.specs.Parents.{AreParents, EndsClimb, parent_of}
pub use Rattle.relaxation.specs.declared.gains.Gains.{Gains}
pub use Rattle.critical_cycle.specs.CyclePlaces.{AreWithin, IsFromLowest, constraints_at, tail_at}
pub use Rattle.critical_cycle.specs.Floors.{IsSmallFloor}
pub use Rattle.critical_cycle.specs.Measures.{CanTry, cycle_count, cycle_weight}
pub use Rattle.critical_cycle.specs.Periods.{HasForbidding, HasSmallValue, IsFloor, IsNeverPeriod, IsPeriodOf, period_of}
pub use Rattle.critical_cycle.specs.Raises.{IsRaise}
pub use Rattle.critical_cycle.specs.Ratios.{IsRatioOf}
pub use Rattle.critical_cycle.specs.Searches.{CloseACycle, IsAtShown, IsSameSearch, IsSearchFor}
pub use Rattle.critical_cycle.specs.ShownRatios.{IsNeverAtAll, IsSettled}
