-- The words that the proofs of this crate have in common.
pub use Rattle.std.proofs.Common.{◌≡◌, ℕ, nat_eq, List, [], ◌∷◌, ◌++◌, map, Option, Some, None, IsSome, IsSomeAnd, All, refl, sym, ap, ◌∙◌, subst, append_assoc, append-nil, ◌+◌, cond, true, length, Result, Ok, Err, MatchResult, arith, ◌<◌, ◌==◌, if◌then◌else◌, inl, inr, Bool, false, not, codes, IfSome, IsTrue, get_or, true≢false, suc, ◌≤◌, Contains, Bor, zero, AllPairs, ◌≢◌, ◌||◌, filter, drop, length-append, take, ◌&&◌, is_some, nat_le, nat_lt, ◌^◌, rules, tests}
pub use Rattle.std.proofs.lemmas.Bool.Decides.{nat_tests}
pub use Rattle.std.proofs.lemmas.List.{map_push, length-map, get_or-map, length_push, take_more, drop_all}
pub use Rattle.std.proofs.lemmas.List.Elements.{All-nil, All-cons, All-head, All-push, All-tail, All-map, All-contains, filter_map-append, Contains-append_right, Contains-get_or, All-filter, All-weaker, filter_passes, filter-append}
pub use Rattle.std.proofs.lemmas.List.Quantifiers.{position-Some, all_pairs_push}
pub use Rattle.std.proofs.lemmas.List.Sums.{sum_by_push, sum_by-cons, AllPass-from_list_all, list_all-from_AllPass}
pub use Rattle.std.proofs.lemmas.Option.{slice_get_within, get_or_from_slice_get, slice_get-get_or, same_Some}
pub use Rattle.std.proofs.lemmas.Result.{err_from_is_err_and, on_ok_weaker}
pub use Rattle.std.specs.List.{filter_map, list_all, slice_get, list_any, find, cons_option, enumerate_from, sum_by, prefix_len}
pub use Rattle.std.specs.Option.{option_or, option_map, option_and_then, option_map_or, option_to_list}
pub use Rattle.std.specs.Str.{str_eq_ignore_ascii_case, bytes_eq}
pub use Rattle.cts_base.proofs.LineFaults.{flawless_at, passed_over, neither}
pub use Rattle.cts_base.specs.LineFormats.{IsFaultOf, first_fault, first_fault_after}
pub use Rattle.cts_base.specs.Lines.{lines_of}
pub use Rattle.cts_base.specs.Words.{is_blank, before_hash}
pub use Rattle.cts_model.proofs.RegisterLists.{filter_map_push_none, filter_map_push_some, registers_push_none, registers_push_some}
pub use Rattle.cts_model.specs.declared.kind.Kind.{Kind}
pub use Rattle.cts_model.specs.declared.signal.Signal.{Signal}
pub use Rattle.cts_model.specs.Vocabulary.{registers_of, IsCircuit, has_host, is_named, register_number, gate_inputs, statements_in, definitions_in, defined_names, register_count, gate_inputs_of, gate_input_count, is_register, is_host, kind_of, is_gate, is_valid, signal_of, number_of, first_mentions, names_in, Statement, Output, Assign, Definition, statement_of, definition_of, mention_of, names_of, uses_of, inputs_of, more_inputs_of, form_of, declaration_of, is_short, is_name_byte, is_name, Token, Word, Close, Comma, begins_with_name_byte, mark_of, onto_word, tokens_of, Open, Equals, Stray}
pub use Rattle.cts_model.specs.netlist.Statements.{Blank, Input}
pub use Rattle.indexmap.specs.IndexSet.{insert_key}
pub use Rattle.bench_reader.specs.Faults.{has_kind, has_valid_inputs, definition_excess, bench_line_fault, netlist_fault, use_fault, is_defined_before, statement_fault, uses_defined}
pub use Rattle.bench_reader.specs.Inputs.{token_words}
pub use Rattle.bench_reader.specs.Netlists.{IsNetlist, RefusesNetlist, names_of_signals}
pub use Rattle.bench_reader.specs.Said.{unless_blank, IsReading, kept_of, said_in, numbered_statement}
pub use Rattle.bench_reader.specs.Taken.{HasParts, HasDefinitions, Adds, excess_after, fault_after, DenotesCircuit}
pub use Rattle.bench_reader.specs.Uses.{AreDefined, UsesDefined, IsUseFault}
pub use Rattle.bench_reader.specs.View.{said_by}
pub use Rattle.bench_reader.specs.declared.circuit_parts.CircuitParts.{CircuitParts}
pub use Rattle.bench_reader.specs.declared.fault.BenchFault.{BenchFault}
pub use Rattle.bench_reader.specs.declared.fault.BenchFault.TheVariants.{NoMemory, BadLine, UnknownKind, WrongInputs, SignalTwice, TooLarge, Undefined}
pub use Rattle.bench_reader.specs.declared.fault.Which.TheVariants.{Name, Signals, Registers, Inputs}
