-- What of a name goes into its hash.
use Rattle.std.specs.Prelude.{ℕ, List, [], ◌∷◌}

-- words of eight bytes, then what is left, and then an empty one: so that each byte is mixed twice
abbrev pub hashed_words : List ℕ → List (List ℕ)
hashed_words (a ∷ b ∷ c ∷ d ∷ e ∷ f ∷ g ∷ h ∷ i ∷ rest) =
    (a ∷ b ∷ c ∷ d ∷ e ∷ f ∷ g ∷ h ∷ []) ∷ hashed_words (i ∷ rest)
hashed_words rest = rest ∷ [] ∷ []
