pub mod ShownCycles
pub mod PeriodOutcomes
pub mod ScheduleOutcomes
pub mod CircuitMargins
pub mod Syntheses
pub mod SynthesisOutcomes
pub mod Types
