-- The words that the proofs of this crate have in common.
pub use Rattle.std.proofs.Common.{◌≡◌, ℕ, ℤ, pos, ◌*ℤ◌, FitsSigned, of_z, to_z, List, [], ◌∷◌, map, codes, None, ◌∙◌, negsuc, ◌≤ℤ◌, Bool, true, false, not, cond, ◌&&◌, ◌||◌, zero, suc, Option, Some, IfSome, is_some, is_none, IsTrue, get_or, unwrap_or, int_lt, refl, sym, ap, arith, ◌+◌, ◌-◌, ◌*◌, ◌<◌, ◌≤◌, min, nat_abs, length, take, ◌++◌, drop, Bor, Result, subst, ◌≢◌, ◌⊎◌, inl, inr, Ok, Err, IfOk, IfErr, IsErrAnd, IsOkUnless, ◌/◌, String, Global, string_bytes, append_assoc, nat_le, rules}
pub use Rattle.std.proofs.lemmas.Bool.{leb-true, false≢true, and_parts}
pub use Rattle.std.proofs.lemmas.Int.{to_z-of_z, ints}
pub use Rattle.std.proofs.lemmas.List.{drop_more, drop_all, take_more, map-append, append-nil}
pub use Rattle.std.proofs.lemmas.Result.{IfOk-weaker, err_from_is_err_and, IfErr-weaker}
pub use Rattle.std.specs.Char.{is_ascii_digit}
pub use Rattle.std.specs.List.{All, AllByRecursion, list_all, fold, flat_map, list_any}
pub use Rattle.std.specs.Option.{option_or, option_and_then, option_map_or}
pub use Rattle.std.specs.Str.Parse.{digits_value}
pub use Rattle.cts_base.proofs.OneFraction.{some_factor, other_sign, one_fraction}
pub use Rattle.cts_base.specs.Fractions.{IsLowest}
pub use Rattle.cts_model.specs.declared.kind.Kind.TheVariants.{And, Nand, Or, Nor, Not, Xor, Xnor, Buff, Input, Dff, Host}
pub use Rattle.cts_model.specs.declared.tech.Tech.{Tech}
pub use Rattle.cts_model.specs.table.AcceptedTables.{GivesKinds, IsDocument, IsNotToml, HasFlaw, IsDelayTable, AcceptsTable, DenotesTable}
unfoldable pub use Rattle.cts_model.specs.table.TableFlaws.{table_flaw}
pub use Rattle.cts_model.specs.table.TableFlaws.{first_flaw, section_flaw, register_flaw, gate_flaw, TableFlaw, WrongType, value_flaw, absence_flaw, key_flaw, way_flaw, is_disordered, order_flaw, kind_flaw, name_flaw, is_no_table, names_in, unknown_of, unknown_at, unknown_in_section, unknown_names, lesser_name, least_name}
unfoldable pub use Rattle.cts_model.specs.table.TableKeys.{sections, top_sections}
pub use Rattle.cts_model.specs.table.TableKeys.{gate_kinds, Fraction, UpTo, Need, Always, InTable, Optional, Key, Section, key, gate_section, gate_way, word_of}
pub use Rattle.cts_model.specs.table.TableValues.{number_at, numerator_of, denominator_of, gate_delay_at, dotted, value_at, table_at, text_at, is_fraction, is_small_fraction, is_up_to, has_form, is_in_range, is_between}
pub use Rattle.cts_model.specs.table.Tables.{IsWithin, IsTable, IsGateDelay}
pub use Rattle.toml.proofs.Views.{table_get}
pub use Rattle.toml.specs.Data.{Members, Data, as_str, as_integer, get_member}
pub use Rattle.toml.specs.View.{members_view, table_view}
pub use Rattle.delay_tables.specs.Keys.{texts, keys_of, section_of, key_of}
pub use Rattle.delay_tables.specs.Refusals.{IsFaultOf, Judges, RefusesTable, DenotesName}
pub use Rattle.delay_tables.specs.declared.fault.TechFault.{TechFault}
