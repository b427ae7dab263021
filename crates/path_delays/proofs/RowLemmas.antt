-- A list of rows of one width stands for one of rows of 64 bits.
use Rattle.path_delays.proofs.Vocabulary.{◌≡◌, ◌≢◌, ◌<◌, ℕ, List, map, length, get_or, set, Some, inl, inr, sym, ◌∙◌, ap, subst, arith, slice_get, option_map, cases_lt, get_or-map, get_or-set_same, get_or-set_other, get_or_default, length-map, length-set, map-set, ints, clamps, slice_get-get_or, slice_get_past, Sums, Lanes, lane_of, GetsSums, row_at}

-- what is set at one place is read as before at the others
set_elsewhere : {X : Type 0} (rows : List X) (place other : ℕ) (x : X) → other ≢ place
    → slice_get (set rows place x) other ≡ slice_get rows other
set_elsewhere rows place other x apart = elim (cases_lt other (length rows)) [
  | inl inside ↦ slice_get-get_or (set rows place x) other x
      (omega (arith, inside, length-set rows place x))
      ∙ (ap Some (get_or-set_other rows place other x x apart)
      ∙ sym (slice_get-get_or rows other x inside))
  | inr past ↦ slice_get_past (set rows place x) other
      (omega (arith, past, length-set rows place x)) ∙ sym (slice_get_past rows other past)
]

-- a row that is set holds its sums, and no other row changes
set_gets : (rows : List Lanes) (signal : ℕ) (lanes : Lanes) (sums : ℕ → Sums)
    → signal < length rows → ((lane : ℕ) → lane < 16 → lane_of lanes lane ≡ sums lane)
    → GetsSums signal sums rows (set rows signal lanes)
set_gets rows signal lanes sums inside each = record {
  covers = length-set rows signal lanes;
  at = λ lane low. ap (option_map (λ (row : Lanes). lane_of row lane))
      (slice_get-get_or (set rows signal lanes) signal lanes
      (omega (arith, inside, length-set rows signal lanes)))
      ∙ ap Some (ap (λ (row : Lanes). lane_of row lane)
      (get_or-set_same rows signal lanes lanes inside) ∙ each lane low);
  others = λ other apart. set_elsewhere rows signal other lanes apart;
}

module _ {R : Type 0} (wide : R → Lanes) (rows : List R) (signal : ℕ) (row : R)
    (inside : signal < length (map wide rows)) where
  -- and so in a list of rows of one width
  pub row_gets : (sums : ℕ → Sums) → ((lane : ℕ) → lane < 16 → lane_of (wide row) lane ≡ sums lane)
      → GetsSums signal sums (map wide rows) (map wide (set rows signal row))
  row_gets sums each = subst (GetsSums signal sums (map wide rows))
      (sym (map-set wide rows signal row)) (set_gets (map wide rows) signal (wide row) sums inside
      each)

  -- what is read of a row
  pub row_read : row ≡ get_or rows signal row → row_at (map wide rows) signal ≡ wide row
  row_read read = grind (arith, ints, clamps, length-map, get_or_default, get_or-map)
