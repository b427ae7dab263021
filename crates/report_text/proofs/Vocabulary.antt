-- The words that the proofs of this crate have in common.
pub use Rattle.std.proofs.Common.{unwrap_or, ◌≡◌, ◌<◌, ◌≤◌, ◌-◌, ◌*◌, ◌^◌, ℕ, List, All, Option, Some, None, length, map, refl, sym, ap, arith, ◌+◌, ℤ, pos, neg_ℤ, to_z, of_z, [], ◌∷◌, ◌++◌, get_or, codes, ap₂, ◌∙◌, subst, append_assoc, drop, append-nil, slice_get, length-append, ◌%◌, zero, suc, negsuc, ◌*ℤ◌, ◌+ℤ◌, ◌≤ℤ◌, nat_abs, inl, inr, ◌↔◌, ◌<ℤ◌, Bool, IsTrue, Result, Ok, Err, IsErrAnd, ◌⊎◌, ◌==◌, true, false, true≢false, position, IfOk, IfErr, ◌&&◌, cond, FitsSigned, ne_eqb, ◌≢◌, if◌then◌else◌, take, MatchBool, MatchOption, replicate, nat_le, set, drop-cons, nat_lt, lt-ltb, eq-eqb, ◌/◌, ◌||◌, rules, tests, Bor, slice_index_or}
pub use Rattle.std.proofs.Math.Nat.{mul-div_cancel', dvd-mul_right, one-le-mul}
pub use Rattle.std.proofs.lemmas.Bool.{cases_lt, false_from_ne_true, le-leb, leb-true}
pub use Rattle.std.proofs.lemmas.Bool.Decides.{Decides-eqb, Decides-int_eq, nat_tests}
pub use Rattle.std.proofs.lemmas.Grind.{flat_map-append}
pub use Rattle.std.proofs.lemmas.Int.{ints, quot-rem, unsigned_abs-mul, by_lt_z, to_z-of_z}
pub use Rattle.std.proofs.lemmas.List.{drop_at, get_or-append-add, get_or-map, get_or-take, get_or_append_left, get_or_push, length-map, length-take, length_push, take_at, length-replicate, same_from_push, get_or-drop, length-drop, length-take-le, take-append-drop, take_all, take_more, drop-drop, map_push, replicate_more, drop-set-lt, drop_more, length-set, replicate-append-replicate, take_more_set, same_lists, map_more}
pub use Rattle.std.proofs.lemmas.List.Elements.{All-map, All-append, All-cons, All-nil, All-push, All-from_recursion, All-rest, All-same, All-replicate}
pub use Rattle.std.proofs.lemmas.List.FromFn.{map-range_with_len_more, get_or-range_with_len, length-range_with_len, length-map-range_with_len, fill_by_all, get_or-map-range_with_len}
pub use Rattle.std.proofs.lemmas.List.Splits.{slice_split_none, slice_split_at, length-slice_split, join_with_byte-slice_split, slice_split_first}
pub use Rattle.std.proofs.lemmas.List.Sums.{position_or_len_is, passes_at_first}
pub use Rattle.std.proofs.lemmas.Nat.Gcd.{mod-eq-zero_of_dvd, le_of_dvd}
pub use Rattle.std.proofs.lemmas.Option.{get_or_from_slice_get, slice_get-get_or, slice_get_past, slice_get_within, unwrap_or-slice_get, none-some, same_Some}
pub use Rattle.std.proofs.lemmas.Result.{IfOk-weaker, IfErr-weaker}
pub use Rattle.std.proofs.lemmas.Slice.Eq.{bytes_eq-Decides}
unfoldable pub use Rattle.std.specs.Fmt.{digits}
pub use Rattle.std.specs.Fmt.{digits_onto, digit_glyph}
pub use Rattle.std.specs.Int.{◌∣◌, IsGcd}
pub use Rattle.std.specs.Int.RustNames.{int_div, int_rem}
pub use Rattle.std.specs.List.{join_with_byte, AllByRecursion, list_all}
pub use Rattle.std.specs.Ordering.{int_eq}
pub use Rattle.std.specs.Str.Parse.{AllDigits, IsNumeral, starts_with_minus}
pub use mir.Syntax.{w128}
pub use Rattle.cts_base.proofs.FractionReading.{few_digits, held_same}
pub use Rattle.cts_base.proofs.GreatestDivisors.{same_factor, up_to_second, quotient_text_is, lowest_sizes}
pub use Rattle.cts_base.proofs.OneNumberText.{slash_differs, HasNoSlash, one_split, no_fraction_minus, one_decimal, one_fraction_text, one_number_text, one_quotient_text}
pub use Rattle.cts_base.proofs.OneSpelling.{fraction_spelled, one_quotient, plain_no_minus, quotient_some, one_whole, whole_no_slash, whole_text, whole_spelled, quotient_text_spelled}
pub use Rattle.cts_base.proofs.Quotients.{negative, int_div-le, lowest_quotients, same_value}
unfoldable pub use Rattle.cts_base.specs.Fractions.{quotient_text}
pub use Rattle.cts_base.specs.Fractions.{divisor_up_to}
pub use Rattle.cts_base.specs.NumberTexts.{kept_size, IsPlainNumeral}
pub use Rattle.cts_model.specs.declared.period.PeriodShow.{PeriodShow}
pub use Rattle.cts_model.specs.declared.period.PeriodShow.TheVariants.{Cycle, Floor}
pub use Rattle.cts_model.specs.declared.schedule.Lead.TheVariants.{Zero, Tight}
pub use Rattle.cts_model.specs.declared.signal.Signal.{Signal}
pub use Rattle.cts_model.specs.declared.tree.Show.{Show}
pub use Rattle.cts_model.specs.declared.tree.Show.TheVariants.{Root, Pair}
pub use Rattle.cts_model.specs.Vocabulary.{host_name, is_named, has_host, is_host, HasTreeBounds, is_name, is_short, is_name_byte, root_of, source_of}
pub use Rattle.cts_model.specs.declared.tree.Show.TheVariants.{Sink}
pub use Rattle.name_set.proofs.OneName.{one_register, one_signal, few_registers}
pub use Rattle.report_text.specs.Common.{signed_decimal, range_with_len, flat_map, list_any, slice_split, after_first, position_or_len, bytes_eq, digits_value, IsLowest, fraction_text, IsBelow, SpellsWhole, SpellsQuotient, HaveSmallSizes, IsNoFraction, is_slash, Fraction, Circuit, Constraint, Point, Report, Version, First, Second, Lead, Tech, Wire, register_name, IsPointBelow, HasSmallWeight, HasSmallWeights, IsBetweenRegisters, ShowsPeriodAmong, count_in, cycle_length, HasTimingBounds, IsMergeShow, IsOfSize, IsSmallWire, IsSourceShow, IsWithinBounds, ShowsAmong, Spells, LeadsAmong, IsSmallLead, lead_line, lines_below, merge_line_at, no_wire, node_line_at, origin, period_show_lines, register_line_at, report_lines, show_words, source_line, timing_lines, tree_lines, version_line, path_line, signal_name, number_at, length_text, pathed_lines, point_words, wire_words, Words, line_for, count_line, period_line, register_line, text_of, line_of, constraint_line, slack_text, IsSmallPeriod, arrival_of, AreSmallSlacks, IsSmallSlack, grid_of, scheduled_length, register_names, ReportFault, NoMemory, Extra, BadLine, Missing, Flaw, LineForm, Scale, Heading, Parts, Timed, MergeLine, NodeLine, SourceLine}
pub use Rattle.report_text.proofs.DenotedLines.{reaches_in, shows_in, places_in, timed_line, lines_after, denoted_lines, lines_of}
pub use Rattle.report_text.specs.Vocabulary.{HasBody, begin_of, report_denoted, sink_reach, AreSteps, WordHasFlaw, sooner_flaw, rank, cycle_forms, forms_after, register_named, constraint_fields, length_field, is_word, slack_field, IsSmallCount, HasHeading, HasShown, HasStepsFlaw, IsBetween, IsNegativeQuotient, IsRefusedFor, version_text, HasFaultOrReport, OneReport, IsNumberOf, signal_names, HasParts, scale_in, whole, suffix, is_line_feed, spaced_words, HasFault, flaw_fault, HasPathed, HasRows, Counted, flaw_in, EndsIn, Keeps, LineLeft, ReadsForm, Takes, TakesNext, DenotesTimed, DenotesConstraint, DenotesLead, DenotesPath, SaysMerge, SaysNode, SaysSource, IsSmallScale, wire_line, coordinates, Left, ReadsLine, Stops, DenotesLine, TakesLine}
pub use Rattle.report_text.specs.Fields.{AreFewSteps, IsFormed, IsFractionForm, IsWholeSteps, IsFirstFlaw, LineHasFlaw, NamesRegister, NamesSignal, EachWord, IsFit, IsKnown, IsWithin}
pub use Rattle.report_text.specs.Forms.{lead_forms, forms_of, fields_of, has_points, node_fields, points_of}
pub use Rattle.report_text.specs.LineFields.{Period, Steps, Field, Register}
pub use Rattle.report_text.specs.ReportFaults.{HasFirstFault, cycle_denoted, den_denoted, scale_denoted, version_denoted, word_at}
pub use Rattle.report_text.specs.Walks.{StopsLine, IsFlawless, SayEach, Reads}
pub use Rattle.report_text.specs.Values.{period_shown_line, merged_line, placed_line, sourced_line}
pub use Rattle.report_text.specs.declared.field.Flaw.TheVariants.{Unknown, Unfit, Large}
