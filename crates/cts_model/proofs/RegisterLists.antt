-- The numbers of the registers, where one more signal comes.
use Rattle.cts_model.proofs.Vocabulary.{◌≡◌, ℕ, suc, ◌+◌, true, false, List, [], ◌∷◌, ◌++◌, length, Option, Some, None, refl, ap, ◌∙◌, arith, append-nil, filter_map, enumerate_from, cons_option, filter_map-append, Signal, is_register, register_number, registers_of}

module _ {X Y : Type 0} (pick : X → Option Y) (xs : List X) (x : X) where
  -- an item at the end from which nothing is picked
  pub filter_map_push_none : pick x ≡ None → filter_map pick (xs ++ x ∷ []) ≡ filter_map pick xs
  filter_map_push_none none = filter_map-append pick xs (x ∷ [])
      ∙ ap (λ o. filter_map pick xs ++ cons_option o []) none ∙ append-nil (filter_map pick xs)

  -- and one from which something is
  pub filter_map_push_some : (y : Y) → pick x ≡ Some y
      → filter_map pick (xs ++ x ∷ []) ≡ filter_map pick xs ++ y ∷ []
  filter_map_push_some y some =
      filter_map-append pick xs (x ∷ []) ∙ ap (λ o. filter_map pick xs ++ cons_option o []) some

-- the items with their numbers
enumerate_push : {X : Type 0} (n : ℕ) (xs : List X) (x : X)
    → enumerate_from n (xs ++ x ∷ []) ≡ enumerate_from n xs ++ (n + length xs, x) ∷ []
enumerate_push n [] x = let here : n ≡ n + 0 = omega arith in ap (λ m. (m, x) ∷ []) here
enumerate_push n (y ∷ xs) x =
    let place : n + 1 + length xs ≡ n + suc (length xs) = omega arith in
    ap (λ l. (n, y) ∷ l)
    (enumerate_push (n + 1) xs x ∙ ap (λ m. enumerate_from (n + 1) xs ++ (m, x) ∷ []) place)

module _ (signals : List Signal) (signal : Signal) where
  -- the signals with their numbers
  numbered_push : registers_of (signals ++ signal ∷ [])
      ≡ filter_map register_number (enumerate_from 0 signals ++ (length signals, signal) ∷ [])
  numbered_push = ap (filter_map register_number)
      (enumerate_push 0 signals signal
      ∙ ap (λ m. enumerate_from 0 signals ++ (m, signal) ∷ []) (omega arith))

  -- a signal that is no register
  pub registers_push_none : is_register signal.kind ≡ false
      → registers_of (signals ++ signal ∷ []) ≡ registers_of signals
  registers_push_none other = numbered_push
      ∙ filter_map_push_none register_number (enumerate_from 0 signals) (length signals, signal)
      (rw other refl)

  -- a register
  pub registers_push_some : is_register signal.kind ≡ true
      → registers_of (signals ++ signal ∷ []) ≡ registers_of signals ++ length signals ∷ []
  registers_push_some register = numbered_push
      ∙ filter_map_push_some register_number (enumerate_from 0 signals) (length signals, signal)
      (length signals) (rw register refl)
