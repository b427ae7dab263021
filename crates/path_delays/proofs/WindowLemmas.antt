-- Times and windows in memory, and those that are put at signals and registers.
use Rattle.path_delays.proofs.Vocabulary.{◌≡◌, ◌+◌, ◌*◌, ◌≤◌, ◌^◌, ℕ, ℤ, pos, ◌+ℤ◌, ◌*ℤ◌, true, false, cond, IsTrue, ◌⊎◌, List, [], ◌∷◌, ◌++◌, length, Option, Some, None, inl, inr, refl, sym, ◌∙◌, ap, subst, arith, w64, w128, slice_get, option_map, mul-add, cases_lt, common_steps, ints, to_z-of_z, length_push, get_or_push, get_or_append_left, same_Some, slice_get_within, slice_get-get_or, get_or_from_slice_get, Signal, Circuit, is_gate, is_host, is_valid, Kind, Host, Tech, gate_inputs, Captures, IsWithin, Window, Sums, AreExtremesIfAny, StandsAt, IsWindowBelow, gate_sums, AreWithin, either_sums, merged_windows, either_window, window_at, AreBelow, AreCaptures, sums_in, sums_of}
use Rattle.cts_model.specs.Vocabulary.{IsBelow}
use Rattle.path_delays.proofs.CaptureLemmas.{few_inputs}
use Rattle.path_delays.proofs.DelayLemmas.{gate_within, weight_of}
use Rattle.path_delays.proofs.Rooms.{within_higher}
use Rattle.path_delays.proofs.SumLemmas.{min_cases, max_cases}
use borrow.Author.Differences.{up, down}
use mir.Val.{to_z, of_z}

-- a time moves by a delay over the scale
pub moved : (scale : ℕ) (from delay more whole : ℤ) → whole ≡ delay +ℤ more
    → (from +ℤ (pos scale *ℤ delay)) +ℤ (pos scale *ℤ more) ≡ from +ℤ (pos scale *ℤ whole)
moved scale from delay more whole is =
    let plain : up whole + down delay + down more ≡ down whole + up delay + up more =
    omega (arith, ints, is) in
    let over = simp mul-add at (ap (λ n. scale * n) plain) in
    omega (arith, ints, over)

-- a time as the code keeps it
abbrev pub kept : ℤ → ℤ
kept time = to_z w128 (of_z w128 time)

-- it is the time itself, if it is small
pub kept_time : {bound : ℕ} (time : ℤ) → IsBelow bound time → (low : bound ≤ 10 ^ 20)
    → kept time ≡ time
kept_time time below low = to_z-of_z w128 time (omega (arith, ints, low, below.above, below.below))

-- and so are ticks
pub kept_ticks : {low high : ℕ} (ticks : ℤ) → IsWithin low high ticks → high ≤ 10 ^ 20
    → kept ticks ≡ ticks
kept_ticks ticks within few = to_z-of_z w128 ticks
    (omega (arith, ints, few, within.above, within.below))

-- and a delay
pub kept_delay : (delay : ℤ) → IsWithin 0 2024000 delay → to_z w64 (of_z w64 delay) ≡ delay
kept_delay delay within = to_z-of_z w64 delay (omega (arith, ints, within.above, within.below))

-- it has few ticks over a small scale
pub ticks_within : (den delay : ℤ) → IsWithin 1 4097 den → IsWithin 0 2024000 delay
    → IsWithin 0 8292328000 (den *ℤ delay)
ticks_within den delay scale small = grind (arith, common_steps)

-- the time that many ticks later
pub kept_later : (den time delay other : ℤ) → IsWithin 1 4097 den → IsBelow (2 * 10 ^ 19) time
    → IsWithin 0 2024000 delay → other ≡ delay
    → kept (kept time +ℤ kept (kept den *ℤ kept other)) ≡ time +ℤ (den *ℤ delay)
kept_later den time delay other scale below small is =
    let ticks = ticks_within den delay scale small in
    rw (
      kept_time time below (omega arith),
      kept_ticks den scale (omega arith),
      is,
      kept_ticks delay small (omega arith),
      kept_ticks (den *ℤ delay) ticks (omega arith),
    )
    (to_z-of_z w128 (time +ℤ (den *ℤ delay))
    (omega (arith, ints, below.above, below.below, ticks.above, ticks.below)))

-- an edge is a window of one time
pub edge_below : (bound : ℕ) (time : ℤ) → bound ≤ 10 ^ 20 → IsBelow bound time
    → IsWindowBelow bound (record { earliest = kept time; latest = kept time })
edge_below bound time low below = grind (arith, kept_time)

-- a bound may be wider
pub below_wider : (bound wider : ℕ) (window : Window) → bound ≤ wider → IsWindowBelow bound window
    → IsWindowBelow wider window
below_wider bound wider window low below = grind (arith, ints)

-- the merged window of two small ones is small
merged_below : (bound : ℕ) (first second : Window) → IsWindowBelow bound first
    → IsWindowBelow bound second → IsWindowBelow bound (merged_windows first second)
merged_below bound first second one other = grind (arith, min_cases, max_cases)

-- so it is where each of the two may be missing
pub below_either : (bound : ℕ) (known found : Option Window) (window : Window)
    → ((old : Window) → known ≡ Some old → IsWindowBelow bound old)
    → ((now : Window) → found ≡ Some now → IsWindowBelow bound now)
    → either_window known found ≡ Some window → IsWindowBelow bound window
below_either bound None found window before now is = now window is
below_either bound (Some known) None window before now is = before window is
below_either bound (Some known) (Some found) window before now is =
    grind (arith, same_Some, merged_below)

-- what stands as sums is that of a window
window_there : (known : Option Window) (sums : Sums) → option_map sums_of known ≡ Some sums
    → (window : Window) × (known ≡ Some window) × (sums_of window ≡ sums)
window_there None sums here = absurd cc
window_there (Some window) sums here = (window, refl, same_Some (sums_of window) sums here)

-- the least and the greatest of small windows are small
pub extremes_below : (windows : List (Option Window)) (IsOne : ℕ → Type 0) (bound : ℕ)
    (hull : Window)
    → AreExtremesIfAny (StandsAt (sums_in windows) IsOne) (option_map sums_of (Some hull))
    → AreBelow bound windows → IsWindowBelow bound hull
extremes_below windows IsOne bound hull are small =
    let (low, (first, is_first, at_first), least) = are.shown.least in
    let (high, (last, is_last, at_last), greatest) = are.shown.greatest in
    let early = window_there (window_at windows first) low at_first in
    let late = window_there (window_at windows last) high at_last in
    record {
      earliest = subst (IsBelow bound) (ap (λ (s : Sums). s.least) early.2 ∙ least)
          (small first early.0 early.1).earliest;
      latest = subst (IsBelow bound) (ap (λ (s : Sums). s.greatest) late.2 ∙ greatest)
          (small last late.0 late.1).latest;
    }

-- of two windows the sums become what the sums of both become
pub sums_of_either : (known found : Option Window) → option_map sums_of (either_window known found)
    ≡ either_sums (option_map sums_of known) (option_map sums_of found)
sums_of_either None None = refl
sums_of_either None (Some found) = refl
sums_of_either (Some known) None = refl
sums_of_either (Some known) (Some found) = refl

-- a gate's delays are small
pub gate_small : (tech : Tech) (signal : Signal) → is_gate signal.kind ≡ true
    → IsTrue (is_valid signal.kind (length signal.fan_in))
    → AreWithin 2024000 (gate_sums tech signal)
gate_small tech signal is_one valid_inputs =
    let few =
    few_inputs signal.kind (length signal.fan_in) (no_host signal.kind is_one) valid_inputs in
    let inputs : gate_inputs signal ≡ length signal.fan_in =
    ap (λ b. cond b (length signal.fan_in) 0) is_one in
    within_higher (weight_of signal) 2024000 (gate_sums tech signal) (omega (arith, inputs, few))
    (gate_within tech signal)
  where
    no_host : (kind : Kind) → is_gate kind ≡ true → is_host kind ≡ false
    no_host Host e = cc e
    no_host _ e = refl

-- a list with one item more: an item of it was there, or is the last
pub pushed_cases : {A : Type 0} (xs : List A) (x y : A) (place : ℕ)
    → slice_get (xs ++ x ∷ []) place ≡ Some y
    → (slice_get xs place ≡ Some y) ⊎ ((place ≡ length xs) × (x ≡ y))
pushed_cases xs x y place here =
    let within = slice_get_within (xs ++ x ∷ []) place y here in
    let value = get_or_from_slice_get (xs ++ x ∷ []) place y y here in
    elim (cases_lt place (length xs)) [
      | inl before ↦ inl (slice_get-get_or xs place y before
          ∙ ap (λ v. Some v) (sym (get_or_append_left xs (x ∷ []) y place before) ∙ value))
      | inr past ↦
          let last : place ≡ length xs = omega (arith, within, length_push xs x) in
          inr (last, sym (get_or_push xs x y place (sym last)) ∙ value)
    ]

-- one register more
pub captures_next : (circuit : Circuit) (windows captured : List (Option Window)) (register : ℕ)
    (found : Option Window)
    → AreExtremesIfAny (StandsAt (sums_in windows) (Captures circuit register))
    (option_map sums_of found) → AreCaptures circuit windows register captured
    → AreCaptures circuit windows (register + 1) (captured ++ found ∷ [])
captures_next circuit windows captured register found extremes so_far =
    grind (arith, length_push, pushed_cases)
