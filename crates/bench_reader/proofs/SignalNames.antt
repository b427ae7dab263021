-- The names of signals, one after the other.
use Rattle.bench_reader.proofs.Vocabulary.{◌≡◌, ◌<◌, ◌+◌, ℕ, List, [], ◌∷◌, ◌++◌, length, map, take, get_or, Some, sym, ap, ◌∙◌, option_map_or, slice_get, slice_get-get_or, take_more, map_push, Signal, names_of_signals}

module _ (signals : List Signal) (numbers : List ℕ) where
  -- the name of the signal of a number
  abbrev name_of : ℕ → List ℕ
  name_of number = option_map_or (λ signal. signal.name) (slice_get signals number) []

  -- the name of the next signal comes last
  pub names_push : (place : ℕ) {names new : List (List ℕ)} {name : List ℕ} (signal : Signal)
      → place < length numbers → get_or numbers place 0 < length signals
      → signal ≡ get_or signals (get_or numbers place 0) signal
      → name ≡ signal.name → names ≡ names_of_signals signals (take place numbers)
      → new ≡ names ++ name ∷ [] → new ≡ names_of_signals signals (take (place + 1) numbers)
  names_push place {name = name} signal within signal_within here same are put =
      let found : slice_get signals (get_or numbers place 0) ≡ Some signal =
      slice_get-get_or signals (get_or numbers place 0) signal signal_within ∙ ap Some (sym here) in
      let named : name ≡ name_of (get_or numbers place 0) =
      same ∙ ap (λ o. option_map_or (λ s. s.name) o []) (sym found) in
      put ∙ ap (λ l. l ++ name ∷ []) are
      ∙ ap (λ n. map name_of (take place numbers) ++ n ∷ []) named
      ∙ sym (map_push name_of (take place numbers) (get_or numbers place 0))
      ∙ ap (map name_of) (sym (take_more numbers place 0 within))
