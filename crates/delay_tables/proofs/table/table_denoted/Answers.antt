use Rattle.delay_tables.proofs.Vocabulary.{◌≡◌, [], ◌∷◌, codes, true, text_at, is_small_fraction, table_view}
use Rattle.delay_tables.proofs.Fractions.{numerator_within, denominator_within}
use Rattle.delay_tables.proofs.DenotedTables.{fraction_denoted, held, is_table}
use Rattle.delay_tables.proofs.FlawlessTables.{is_top_within}
use Rattle.delay_tables.proofs.table.table_denoted.Goals as goal

pub lowest_terms-wire-requires-clause-form : goal.lowest_terms-wire-requires-clause-form
lowest_terms-wire-requires-clause-form c =
    let top = is_top_within (table_view c.args.document.now) c.requires.keys in
    rw (c.as_bytes.ensures.value, c.text_at.ensures) top.form

pub lowest_terms-wire-requires-clause-small : goal.lowest_terms-wire-requires-clause-small
lowest_terms-wire-requires-clause-small c =
    let top = is_top_within (table_view c.args.document.now) c.requires.keys in
    rw (c.as_bytes.ensures.value, c.text_at.ensures) top.small

pub invariant_of-result : goal.invariant_of-result
invariant_of-result c =
    let wire = c.lowest_terms-wire in
    let bytes = c.as_bytes.result.now in
    let top = is_top_within (table_view c.args.document.now) c.requires.keys in
    let small : is_small_fraction bytes ≡ true =
    rw (c.as_bytes.ensures.value, c.text_at.ensures) top.small in
    let lowest = wire.result.lowest in
    let num = numerator_within bytes wire.result.num wire.result.den small lowest.some_den
    wire.ensures.value wire.ensures.num in
    let den = denominator_within bytes wire.result.den small lowest.some_den wire.ensures.den in
    record {
      valid = is_table (table_view c.args.document.now) wire.result.num wire.result.den
          _ _ _ _ _ _ _ _ c.requires.keys c.requires.order num den lowest
          (held c.num.result _ (record { sfits = c.num.type_inv }) c.num.ensures.value)
          (held c.den.result _ (record { sfits = c.den.type_inv }) c.den.ensures.value)
          (record {
            setup_is = held c.number_at.result _
                (record { sfits = c.number_at.type_inv }) c.number_at.ensures;
            hold_is = held c.number_at-2.result _
                (record { sfits = c.number_at-2.type_inv }) c.number_at-2.ensures;
            least_is = held c.number_at-3.result _
                (record { sfits = c.number_at-3.type_inv }) c.number_at-3.ensures;
            greatest_is = held c.number_at-4.result _
                (record { sfits = c.number_at-4.type_inv }) c.number_at-4.ensures;
            floor_is = held c.number_at-5.result _
                (record { sfits = c.number_at-5.type_inv }) c.number_at-5.ensures;
            gates_are = c.gate_delays.ensures;
          });
    }

pub returns : goal.returns
returns c =
    let text = text_at (codes "wire" ∷ []) (codes "delay") (table_view c.args.document.now) in
    let wire = c.lowest_terms-wire in
    let value = rw (c.as_bytes.ensures.value, c.text_at.ensures) at wire.ensures.value in
    record {
      wire = fraction_denoted text wire.result.num wire.result.den _ _
          (held c.num.result _ (record { sfits = c.num.type_inv }) c.num.ensures.value)
          (held c.den.result _ (record { sfits = c.den.type_inv }) c.den.ensures.value) value;
      source = c.in_ok-name_at.ensures;
      setup = held c.number_at.result _
          (record { sfits = c.number_at.type_inv }) c.number_at.ensures;
      hold = held c.number_at-2.result _
          (record { sfits = c.number_at-2.type_inv }) c.number_at-2.ensures;
      least = held c.number_at-3.result _
          (record { sfits = c.number_at-3.type_inv }) c.number_at-3.ensures;
      greatest = held c.number_at-4.result _
          (record { sfits = c.number_at-4.type_inv }) c.number_at-4.ensures;
      host = c.in_ok-name_at-2.ensures;
      floor = held c.number_at-5.result _
          (record { sfits = c.number_at-5.type_inv }) c.number_at-5.ensures;
      gates = c.gate_delays.ensures;
    }
