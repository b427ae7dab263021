-- The words that the contracts of this crate have in common.
pub use Rattle.std.specs.Io.{ReadsAtMost, WritesAtMost}
pub use Rattle.std.specs.Io.KnownBytes.{ReadConsumes, WriteAppends}
pub use Rattle.std.specs.Str.{bytes_eq}
pub use Rattle.std.specs.declared.io.Error.{Error}
pub use Rattle.cts_io.specs.Device.{Rose, Takes, appended, WritesPrefix}
pub use Rattle.cts_io.specs.Host.{absent}
pub use Rattle.cts_io.specs.MemoryInputs.{InputsState, held_in, bytes_at, starts, after_start, given, after_take}
pub use Rattle.cts_io.specs.MemorySink.{SinkState, is_refused, accepted, after_write}
pub use Rattle.cts_io.specs.NeverFails.{FilesState, bytes_named, fitting, none}
pub use Rattle.cts_io.specs.Plan.{raised, fresh_plan, fails_next}
pub use Rattle.cts_io.specs.Stream.{AnswersOpen, AnswersRead, AnswersWrite, Tried}
pub use Rattle.cts_io.specs.Whole.{read_fault_of}
pub use Rattle.cts_io.specs.declared.whole.ReadWhole.TheVariants.{NoMemory}
