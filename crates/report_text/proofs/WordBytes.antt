-- The words of a report have no space and no line feed: numbers, and the names of signals.
use Rattle.report_text.proofs.Vocabulary.{◌≡◌, ◌<◌, ◌+◌, ◌/◌, ◌%◌, ◌==◌, ◌&&◌, ◌||◌, ℕ, suc, zero, ℤ, pos, negsuc, Bool, true, false, cond, List, [], ◌∷◌, ◌++◌, Option, Some, None, slice_get, nat_lt, nat_le, refl, sym, subst, true≢false, arith, digits, digits_onto, digit_glyph, signed_decimal, list_all, int_eq, bytes_eq, leb-true, slice_get_within, get_or_from_slice_get, bytes_eq-Decides, Fraction, fraction_text, quotient_text, Signal, Circuit, host_name, is_named, is_host, is_name_byte, is_name, is_short, register_name, slack_text, signal_name}
use Rattle.std.specs.Option.{option_and_then, option_map_or}
use Rattle.report_text.proofs.OneLine.{IsWord}

-- both of two tests pass
pub both : (a b : Bool) → (a && b) ≡ true → (a ≡ true) × (b ≡ true)
both true b pass = (refl, pass)
both false b pass = absurd (true≢false (sym pass))

-- two parts of a word
word_parts : (first second : List ℕ) → IsWord first → IsWord second → IsWord (first ++ second)
word_parts [] second is is' = is'
word_parts (byte ∷ first) second is is' = (is.0, word_parts first second is.1 is')

-- ---- numbers

-- a digit is above the space
glyph_above : (digit : ℕ) → 32 < digit_glyph false digit
glyph_above digit = at (nat_lt digit 10)
  where
    at : (small : Bool) → 32 < cond small (48 + digit) (87 + digit)
    at true = omega arith
    at false = search arith

-- so are the digits of a number
digits_above : (most base number : ℕ) (suffix : List ℕ) → IsWord suffix
    → IsWord (digits_onto most base false number suffix)
digits_above zero base number suffix is = is
digits_above (suc most) base number suffix is =
    at (number / base == 0) (glyph_above (number % base), is)
    (digits_above most base (number / base) _ (glyph_above (number % base), is))
  where
    at : (last : Bool) → IsWord (digit_glyph false (number % base) ∷ suffix)
        → IsWord (digits_onto most base false (number / base)
        (digit_glyph false (number % base) ∷ suffix))
        → IsWord (cond last (digit_glyph false (number % base) ∷ suffix)
        (digits_onto most base false (number / base) (digit_glyph false (number % base) ∷ suffix)))
    at true here more = here
    at false here more = more

-- a number is a word
pub number_word : (number : ℤ) → IsWord (signed_decimal number)
unfolding digits
number_word (pos number) = digits_above 64 10 number [] tt
number_word (negsuc number) = (omega arith, digits_above 64 10 (suc number) [] tt)

-- so is a fraction
pub fraction_word : (num den : ℤ) → IsWord (fraction_text num den)
fraction_word num den = at (int_eq den (pos 1))
  where
    at : (whole : Bool) → IsWord (cond whole (signed_decimal num)
        (signed_decimal num ++ 47 ∷ signed_decimal den))
    at true = number_word num
    at false = search (arith, word_parts, number_word)

-- a quotient
pub quotient_word : (num den : ℤ) → IsWord (quotient_text num den)
unfolding quotient_text
quotient_word num den = search (arith, fraction_word)

-- and a slack
pub slack_word : (slack : Option Fraction) → IsWord (slack_text slack)
slack_word None = (omega arith, tt)
slack_word (Some slack) = fraction_word slack.num slack.den

-- ---- names

-- a byte of a name is above the space
name_byte : (byte : ℕ) → is_name_byte byte ≡ true → 32 < byte
name_byte byte of_name =
    at (nat_le 33 byte) refl (nat_le 128 byte) refl (both _ _ of_name).0
  where
    at : (low : Bool) → nat_le 33 byte ≡ low → (high : Bool) → nat_le 128 byte ≡ high
        → ((low && nat_le byte 126) || (high && nat_le byte 255)) ≡ true → 32 < byte
    at true is high is' pass = leb-true 33 byte is
    at false is true is' pass = omega (arith, leb-true 128 byte is')
    at false is false is' pass = absurd (true≢false (sym pass))

-- so are all of them
name_bytes : (bytes : List ℕ) → list_all is_name_byte bytes ≡ true → IsWord bytes
name_bytes [] all = tt
name_bytes (byte ∷ bytes) all =
    let each = both (is_name_byte byte) (list_all is_name_byte bytes) all in
    (name_byte byte each.0, name_bytes bytes each.1)

-- the name of a signal is a word
name_word : (signal : Signal) → is_named signal ≡ true → IsWord signal.name
name_word signal named = at (is_host signal.kind) named
  where
    host_word : IsWord host_name
    host_word = search arith

    at : (host : Bool) → cond host (bytes_eq signal.name host_name)
        (is_name signal.name && is_short signal.name) ≡ true → IsWord signal.name
    at true is = subst IsWord (sym ((bytes_eq-Decides signal.name host_name).0 is)) host_word
    at false is = search (arith, name_bytes, both, nat_le)

-- and so is what is printed for a signal's number
pub signal_word : (circuit : Circuit) (number : ℕ) → IsWord (signal_name circuit number)
signal_word circuit number = named (slice_get circuit.signals number) (λ signal found.
    subst (λ s. is_named s ≡ true)
    (get_or_from_slice_get circuit.signals number signal signal found)
    (circuit.valid.names number signal (slice_get_within circuit.signals number signal found)))
  where
    named : (found : Option Signal)
        → ((signal : Signal) → found ≡ Some signal → is_named signal ≡ true)
        → IsWord (option_map_or (λ signal. signal.name) found [])
    named None each = tt
    named (Some signal) each = name_word signal (each signal refl)

-- or a register's
pub register_word : (circuit : Circuit) (register : ℕ) → IsWord (register_name circuit register)
register_word circuit register = at (slice_get circuit.registers register)
  where
    at : (number : Option ℕ) → IsWord (option_map_or (λ signal. signal.name)
        (option_and_then (slice_get circuit.signals) number) [])
    at None = tt
    at (Some number) = signal_word circuit number
