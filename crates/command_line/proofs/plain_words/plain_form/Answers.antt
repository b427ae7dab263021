use Rattle.command_line.proofs.Vocabulary.{◌∙◌, ◌∷◌, ◌++◌, sym, ap, refl, string_bytes, map, true≢false, form_name, are_tables, are_plain}
use Rattle.command_line.proofs.PlainCommands.{command_passes}
use Rattle.command_line.proofs.PlainWordTests.{after_one, first_word, before_tables-map, tables_among-map, joined_tables}
use Rattle.command_line.proofs.plain_words.plain_form.Goals as goal
use Rattle.command_line.proofs.plain_words.plain_form.Goals.{else-are_plain-via-then-are_plain+else-are_tables, else-are_plain-via-else-are_plain}

pub returns-then-are_tables-clause-some : goal.returns-then-are_tables-clause-some
returns-then-are_tables-clause-some c =
    let form = c.in_ok-form.form in
    let others = after_one c.args.words.now in
    let options = map string_bytes c.parts.result.0.now in
    let is = first_word string_bytes c.args.words.now c.name-item.result c.in-len1-up.len_at_least
    c.name-item.is
    ∙ ap (λ name. name ∷ map string_bytes others)
    (sym (c.in_ok-form.ensures.some ∙ c.as_str.ensures.value)) in
    let cut = joined_tables string_bytes form others
    ∙ (λ i. map string_bytes (sym c.parts.ensures.options i)
    ++ map string_bytes (sym c.parts.ensures.tables i)) in
    record {
      head = form_name form ∷ options;
      words_are = is ∙ ap (λ words. form_name form ∷ words) cut;
      plain = record {
        others = options;
        words_are = refl;
        options = ap (λ choices. are_plain choices options) (sym c.row.ensures.choices)
            ∙ sym c.are_plain.ensures ∙ c.if-are_plain.true;
      };
      files = sym c.are_tables.ensures ∙ c.if-are_tables.true;
    }

pub returns-else-are_plain-clause-none : goal.returns-else-are_plain-clause-none
returns-else-are_plain-clause-none c none command means =
    let form = c.in_ok-form.form in
    let others = after_one c.args.words.now in
    let is = first_word string_bytes c.args.words.now c.name-item.result c.in-len1-up.len_at_least
    c.name-item.is
    ∙ ap (λ name. name ∷ map string_bytes others)
    (sym (c.in_ok-form.ensures.some ∙ c.as_str.ensures.value)) in
    let passes = command_passes (map string_bytes c.args.words.now) form (map string_bytes others)
    is command means in
    elim c.else-are_plain.branch [
      | else-are_plain-via-then-are_plain+else-are_tables w ↦
          absurd (true≢false (sym passes.tables
          ∙ ap (are_tables form) (tables_among-map string_bytes form others
          ∙ ap (map string_bytes) (sym c.parts.ensures.tables))
          ∙ sym w.are_tables.ensures ∙ w.if-are_tables.false))
      | else-are_plain-via-else-are_plain w ↦
          absurd (true≢false (sym passes.options
          ∙ (λ i. are_plain (sym c.row.ensures.choices i)
          ((before_tables-map string_bytes form others
          ∙ ap (map string_bytes) (sym c.parts.ensures.options)) i))
          ∙ sym c.are_plain.ensures ∙ w.if-are_plain.false))
    ]
