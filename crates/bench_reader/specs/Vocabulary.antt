-- The words that the contracts of this crate have in common.
pub use Rattle.std.specs.Iterator.{YieldsFirstRef, item_count, YieldsFirstBy}
pub use Rattle.std.specs.List.{filter_map, list_all, prefix_len}
pub use Rattle.std.specs.Option.{option_map, option_to_list}
pub use Rattle.std.specs.Str.{str_eq_ignore_ascii_case}
pub use Rattle.cts_base.specs.LineFormats.{IsFaultOf, first_fault}
pub use Rattle.cts_base.specs.Lines.{lines_of}
pub use Rattle.cts_base.specs.Words.{is_blank}
pub use Rattle.cts_model.specs.Vocabulary.{registers_of, number_of, statement_of, uses_of, is_short, tokens_of, HasNoHost, form_of, declaration_of, names_of, Word, Close, Equals, is_name_byte, mark_of}
pub use Rattle.cts_model.specs.netlist.Statements.{Blank}
pub use Rattle.indexmap.specs.IndexSet.{insert_key}
pub use Rattle.bench_reader.specs.Faults.{has_kind, use_fault, bench_line_fault, netlist_fault}
pub use Rattle.bench_reader.specs.Inputs.{token_words}
pub use Rattle.bench_reader.specs.Netlists.{AcceptsNetlist, RefusesNetlist, names_of_signals}
pub use Rattle.bench_reader.specs.Said.{kept_of, unless_blank}
pub use Rattle.bench_reader.specs.Taken.{HasParts, DenotesCircuit}
pub use Rattle.bench_reader.specs.Tallies.{tally_of, with_names}
pub use Rattle.bench_reader.specs.Uses.{AreNumbered, IsUseFault}
pub use Rattle.bench_reader.specs.View.{said_by, token_of}
pub use Rattle.bench_reader.specs.declared.fault.BenchFault.{BenchFault}
