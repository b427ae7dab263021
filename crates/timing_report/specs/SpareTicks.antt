-- What is left in ticks over the period's denominator at a register, by when what is launched
-- comes.
use Rattle.std.specs.Prelude.{◌≡◌, ℕ, ℤ, ◌+ℤ◌, ◌-ℤ◌, ◌*ℤ◌, List, length, All, Option, Some, None, IsSomeAnd, MatchOption, slice_get, slice_index_or}
use Rattle.cts_base.specs.declared.fraction.Fraction.{Fraction}
use Rattle.cts_model.specs.declared.tech.Tech.{Tech}
use Rattle.cts_model.specs.declared.schedule.Slack.{Slack}
use Rattle.cts_model.specs.Vocabulary.{arrival_of, AreSmallSlacks}
use Rattle.path_delays.specs.declared.window.Window.{Window}

-- from the latest time on to the next edge, less the setup time
abbrev pub setup_ticks : Tech → Fraction → (at latest : ℤ) → ℤ
setup_ticks tech period at latest =
    (at +ℤ period.num) -ℤ (latest +ℤ (period.den *ℤ tech.setup))

-- from the edge and the hold time on to the earliest time
abbrev pub hold_ticks : Tech → Fraction → (at earliest : ℤ) → ℤ
hold_ticks tech period at earliest = earliest -ℤ (at +ℤ (period.den *ℤ tech.hold))

-- the fraction is so many ticks over the denominator
abbrev pub IsTicks : (den ticks : ℤ) → Fraction → Type 0
IsTicks den ticks fraction = (fraction.num *ℤ den) ≡ (ticks *ℤ fraction.den)

-- both slacks are what is left
pub record IsSlackBy (tech : Tech) (period : Fraction) (at : ℤ) (slack : Slack)
    (window : Window) : Type 0 where
  pub setup : IsSomeAnd slack.setup (IsTicks period.den (setup_ticks tech period at window.latest))
  pub hold : IsSomeAnd slack.hold (IsTicks period.den (hold_ticks tech period at window.earliest))

-- there is none
pub record IsNoSlack (slack : Slack) : Type 0 where
  pub setup : slack.setup ≡ None
  pub hold : slack.hold ≡ None

-- none where nothing comes
abbrev pub IsSlackAt : Tech → Fraction → (at : ℤ) → Option Window → Slack → Type 0
IsSlackAt tech period at window slack =
    MatchOption window (IsNoSlack slack) (IsSlackBy tech period at slack)

-- the slacks of the registers below a number, by when what is launched comes
pub record AreSlacksBefore (tech : Tech) (period : Fraction) (at : List ℤ)
    (windows : List (Option Window)) (below : ℕ) (slacks : List Slack) : Type 0 where
  pub registers : length slacks ≡ below
  pub each : (register : ℕ) (slack : Slack) → slice_get slacks register ≡ Some slack
      → IsSlackAt tech period (arrival_of at register) (slice_index_or windows register None) slack
  pub small : All (AreSmallSlacks period.den) slacks
