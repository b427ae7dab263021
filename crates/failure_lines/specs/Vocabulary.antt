-- The words that the contracts of this crate have in common.
pub use Rattle.std.specs.List.{flat_map}
pub use Rattle.cts_model.specs.table.TableKeys.{word_of}
pub use Rattle.failure_lines.specs.Failures.{printable_byte, limit_word, number_word, words_text}
pub use Rattle.failure_lines.specs.Line.{Puts}
pub use Rattle.failure_lines.specs.Refusals.{words_failure_of, bench_failure_of, tech_failure_of, topology_failure_of, moves_failure_of, report_failure_of, pair_failure_of}
pub use Rattle.failure_lines.specs.declared.failure.Failure.{Failure}
pub use Rattle.failure_lines.specs.declared.failure.Failure.TheVariants.{NoMemory}
pub use Rattle.failure_lines.specs.declared.file_kind.FileKind.TheVariants.{Tech}
