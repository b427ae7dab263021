-- Slacks that aren't below 0, and slacks that are the same.
use Rattle.std.specs.Prelude.{◌≡◌, pos, ◌≤ℤ◌, Option, Some, None, IfSome}
use Rattle.cts_base.specs.declared.fraction.Fraction.{Fraction}
use Rattle.cts_model.specs.declared.schedule.Slack.{Slack}

-- the slack, if there is one, isn't below 0
abbrev pub IsFromZero : Option Fraction → Type 0
IsFromZero slack = IfSome slack (λ fraction. pos 0 ≤ℤ fraction.num)

-- neither slack of a register is
abbrev pub HasSlackRoom : Slack → Type 0
HasSlackRoom slack = IsFromZero slack.setup × IsFromZero slack.hold

-- both are the same fraction, or there is neither
abbrev pub AreOneSlack : Option Fraction → Option Fraction → Type 0
AreOneSlack None None = Unit {0}
AreOneSlack None (Some other) = ⊥
AreOneSlack (Some slack) None = ⊥
AreOneSlack (Some slack) (Some other) = (slack.num ≡ other.num) × (slack.den ≡ other.den)
