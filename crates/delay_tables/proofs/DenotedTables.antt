-- The delay table that a document denotes.
use Rattle.delay_tables.proofs.Vocabulary.{◌≡◌, ℕ, ℤ, pos, ◌*ℤ◌, FitsSigned, of_z, to_z, List, [], ◌∷◌, map, codes, None, ◌∙◌, to_z-of_z, option_or, Members, IsLowest, IsWithin, IsTable, sections, gate_kinds, number_at, numerator_of, denominator_of, gate_delay_at, first_flaw, section_flaw, register_flaw, gate_flaw}
use mir.Syntax.{w128}
use Rattle.cts_model.specs.declared.tech.GateDelay.{GateDelay}
use Rattle.delay_tables.proofs.FlawlessTables.{is_top_within, registers_ordered, gates_within, orders}

-- the numbers of a table are those that a document denotes
pub record AreDenoted (document : Members) (setup hold least greatest floor : ℤ)
    (gates : List GateDelay) : Type 0 where
  pub setup_is : setup ≡ number_at (codes "register" ∷ []) (codes "setup") document
  pub hold_is : hold ≡ number_at (codes "register" ∷ []) (codes "hold") document
  pub least_is : least ≡ number_at (codes "register" ∷ []) (codes "least") document
  pub greatest_is : greatest ≡ number_at (codes "register" ∷ []) (codes "greatest") document
  pub floor_is : floor ≡ number_at (codes "period" ∷ []) (codes "floor") document
  pub gates_are : gates ≡ map (gate_delay_at document) gate_kinds

-- a table that a flawless document denotes keeps what a table keeps
pub is_table : (document : Members) (num den : ℤ)
    (wire_num wire_den setup hold least greatest floor : ℤ) (gates : List GateDelay)
    → first_flaw (section_flaw document) sections ≡ None
    → option_or (register_flaw document) (first_flaw (gate_flaw document) gate_kinds) ≡ None
    → IsWithin 1 1000000 num → IsWithin 1 1000000 den → IsLowest num den
    → wire_num ≡ num → wire_den ≡ den → AreDenoted document setup hold least greatest floor gates
    → IsTable wire_num wire_den setup hold least greatest floor gates
is_table document num den wire_num wire_den setup hold least greatest floor gates none in_order
    some_num some_den lowest num_is den_is denoted =
    let top = is_top_within document none in
    let order = orders document in_order in
    rw (num_is, den_is, denoted.setup_is, denoted.hold_is, denoted.least_is, denoted.greatest_is)
    (rw (denoted.floor_is, denoted.gates_are) (record {
      wire_num_within = some_num;
      wire_den_within = some_den;
      lowest_terms = lowest.coprime;
      setup_within = top.setup;
      hold_within = top.hold;
      least_within = top.least;
      greatest_within = top.greatest;
      ordered = registers_ordered document order.0;
      floor_within = top.floor;
      gates_within = gates_within document none order.1;
    }))

-- a number that a call gives is kept as an `i128` as it is
pub held : (number other : ℤ) → FitsSigned w128 number → number ≡ other
    → to_z w128 (of_z w128 number) ≡ other
held number other fits is = to_z-of_z w128 number fits ∙ is

-- numbers that are those of the fraction that a text writes have its value
pub fraction_denoted : (text : List ℕ) (num den wire_num wire_den : ℤ)
    → wire_num ≡ num → wire_den ≡ den
    → num *ℤ pos (denominator_of text) ≡ pos (numerator_of text) *ℤ den
    → wire_num *ℤ pos (denominator_of text) ≡ pos (numerator_of text) *ℤ wire_den
fraction_denoted text num den wire_num wire_den num_is den_is value = rw (num_is, den_is) value
