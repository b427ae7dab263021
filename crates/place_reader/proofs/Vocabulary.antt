-- The words that the proofs of this crate have in common.
pub use Rattle.std.proofs.Common.{◌≡◌, ℕ, ◌+◌, Bool, true, false, ◌||◌, cond, List, [], ◌∷◌, ◌++◌, map, take, Some, refl, sym, ap, ◌∙◌, IsTrue, length, length-append, if◌then◌else◌, get_or, set, replicate, position, not, ◌≢◌, true≢false, None, Result, Ok, Err, subst, append_assoc, append-nil, ◌<◌, Option, arith, ◌≤◌, drop, suc, inl, inr}
pub use Rattle.std.proofs.Math.Bool.{or-false, or-true}
pub use Rattle.std.proofs.lemmas.Bool.Decides.{nat_tests}
pub use Rattle.std.proofs.lemmas.List.{take_more, length-map, drop_all, get_or-set_same, get_or-set_other, get_or_past}
pub use Rattle.std.proofs.lemmas.List.Quantifiers.{position-Some}
pub use Rattle.std.proofs.lemmas.List.Sums.{fails_before_first, passes_at_first, prefix_len-le-length}
pub use Rattle.std.proofs.lemmas.List.Folds.{list_any-append, list_any_at, list_any_none}
pub use Rattle.std.proofs.lemmas.Option.{slice_get_within, get_or_from_slice_get}
pub use Rattle.std.proofs.lemmas.Result.{IfErr-weaker, err_from_is_err_and}
pub use Rattle.std.proofs.lemmas.Slice.Eq.{bytes_eq-Decides}
pub use Rattle.std.specs.List.{position_or_len, slice_get}
pub use Rattle.std.specs.Map.{lookup}
pub use Rattle.std.specs.Option.{option_map, option_or, option_to_list, option_map_or}
pub use Rattle.std.specs.Result.{result_ok, result_map_both}
pub use Rattle.std.specs.Str.{bytes_eq}
pub use Rattle.cts_base.specs.LineFormats.{first_fault, first_fault_after, unless_faulty, IsFaultOf}
pub use Rattle.cts_base.specs.Lines.{lines_of}
pub use Rattle.cts_base.specs.declared.number.NumberFault.{NumberFault}
pub use Rattle.cts_model.specs.declared.circuit.Circuit.{Circuit}
pub use Rattle.cts_model.specs.declared.place.Point.{Point}
pub use Rattle.cts_model.specs.Vocabulary.{point_of, Entry, Blank, Header, Stands, entry_after, entry_of_words, has_begun, has_words, words_in}
pub use Rattle.place_reader.specs.Names.{AreSameNames}
unfoldable pub use Rattle.place_reader.specs.Placements.{places_in}
pub use Rattle.place_reader.specs.Placements.{is_among, place_entry_fault, place_line_fault, node_fault, place_by, placed_at, places_after, AcceptsPlacement, RefusesPlacement, points_from, register_nodes, wanted_nodes, with_source, node_name}
pub use Rattle.place_reader.specs.Taken.{AreSamePlaces, point_at, kept_at, HasTaken, TakesLine, wanted_place}
pub use Rattle.place_reader.specs.View.{is_written, said_by}
pub use Rattle.place_reader.specs.declared.fault.PlaceFault.{PlaceFault}
pub use Rattle.place_reader.specs.declared.fault.PlaceFault.TheVariants.{NoPlace, NoMemory}
