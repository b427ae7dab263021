-- What goes into the hash of a name, word by word.
use Rattle.std.proofs.Common.{◌≡◌, ◌<◌, ◌≤◌, ℕ, List, [], ◌∷◌, length, take, drop, refl, arith}
use Rattle.name_set.specs.HashedWords.{hashed_words}

-- a longer name begins with a word
pub hashed_words-long : (name : List ℕ) → 8 < length name
    → hashed_words name ≡ take 8 name ∷ hashed_words (drop 8 name)
hashed_words-long (a ∷ b ∷ c ∷ d ∷ e ∷ f ∷ g ∷ h ∷ i ∷ rest) long = refl
hashed_words-long [] long = absurd (omega arith)
hashed_words-long (a ∷ []) long = absurd (omega arith)
hashed_words-long (a ∷ b ∷ []) long = absurd (omega arith)
hashed_words-long (a ∷ b ∷ c ∷ []) long = absurd (omega arith)
hashed_words-long (a ∷ b ∷ c ∷ d ∷ []) long = absurd (omega arith)
hashed_words-long (a ∷ b ∷ c ∷ d ∷ e ∷ []) long = absurd (omega arith)
hashed_words-long (a ∷ b ∷ c ∷ d ∷ e ∷ f ∷ []) long = absurd (omega arith)
hashed_words-long (a ∷ b ∷ c ∷ d ∷ e ∷ f ∷ g ∷ []) long = absurd (omega arith)
hashed_words-long (a ∷ b ∷ c ∷ d ∷ e ∷ f ∷ g ∷ h ∷ []) long = absurd (omega arith)

-- a shorter one is one
pub hashed_words-short : (name : List ℕ) → length name ≤ 8 → hashed_words name ≡ name ∷ [] ∷ []
hashed_words-short (a ∷ b ∷ c ∷ d ∷ e ∷ f ∷ g ∷ h ∷ i ∷ rest) short = absurd (omega arith)
hashed_words-short _ short = refl
