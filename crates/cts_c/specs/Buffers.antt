-- What a call leaves in the buffer that it was given for a text.
use Rattle.std.specs.Prelude.{◌≡◌, ◌≤◌, ◌<◌, ◌++◌, ℕ, List, length, drop}

-- the text stands at the beginning of the buffer, whose other bytes stay
pub record IsHanded (text before now : List ℕ) (size : ℕ) : Type 0 where
  pub whole : size ≡ length text
  pub fits : size ≤ length before
  pub stands : now ≡ text ++ drop size before

-- the buffer is too small for the text, and stays as it was
pub record IsTooLarge (text before now : List ℕ) (size : ℕ) : Type 0 where
  pub whole : size ≡ length text
  pub small : length before < size
  pub stays : now ≡ before

-- there is no text, and the buffer stays as it was
pub record IsNone (before now : List ℕ) (size : ℕ) : Type 0 where
  pub size_is : size ≡ 0
  pub stays : now ≡ before
