-- The first judgement of several that doesn't hold, and its first place.
use Rattle.std.specs.Prelude.{◌≡◌, ◌⊎◌, ◌<◌, ℕ, Result, Ok, Err}
use Rattle.cts_model.specs.Vocabulary.{AtEach}
use Rattle.cert_check.specs.declared.verdict.Reason.{Reason}
use Rattle.cert_check.specs.declared.verdict.Stop.{Stop}
use Rattle.cert_check.specs.declared.verdict.Stop.TheVariants.{At, NoMemory}
use Rattle.cert_check.specs.declared.verdict.Verdict.{Verdict}
use Rattle.cert_check.specs.declared.verdict.Verdict.TheVariants.{Shown, Not}

-- at this place it doesn't hold, and at each before it does
pub record FailsFirst (places : ℕ) (Holds : ℕ → Type 0) (place : ℕ) : Type 0 where
  pub within : place < places
  pub fails : Holds place → ⊥
  pub before : AtEach place Holds

-- it holds at each place, or its reason at the first place where it doesn't stops
abbrev pub Judges : (places : ℕ) → (Holds : ℕ → Type 0) → (reason : ℕ → Reason) → {T : Type 0}
    → Result T Stop → Type 0
Judges places Holds reason (Ok done) = AtEach places Holds
Judges places Holds reason (Err (At given)) =
    (place : ℕ) × FailsFirst places Holds place × (given ≡ reason place)
Judges places Holds reason (Err NoMemory) = Unit {0}

-- a judgement that has one place
abbrev pub JudgesOnce : (Holds : Type 0) → Reason → {T : Type 0} → Result T Stop → Type 0
JudgesOnce Holds reason (Ok done) = Holds
JudgesOnce Holds reason (Err (At given)) = (Holds → ⊥) × (given ≡ reason)
JudgesOnce Holds reason (Err NoMemory) = Unit {0}

-- the reason of the first place where it doesn't hold decides; where it holds at each, what is
-- judged next does
abbrev pub Judged : (places : ℕ) → (Holds : ℕ → Type 0) → (reason : ℕ → Reason) → Verdict
    → (Next : Type 0) → Type 0
Judged places Holds reason verdict Next =
    ((place : ℕ) × FailsFirst places Holds place × (verdict ≡ Not (reason place)))
    ⊎ (AtEach places Holds × Next)

-- a judgement that has one place
abbrev pub JudgedOnce : (Holds : Type 0) → Reason → Verdict → (Next : Type 0) → Type 0
JudgedOnce Holds reason verdict Next =
    ((Holds → ⊥) × (verdict ≡ Not reason)) ⊎ (Holds × Next)

-- a verdict by what stops the judgements, or that they all hold
abbrev pub Decides : (IsVerdict : Verdict → Type 0) → {T : Type 0} → Result T Stop → Type 0
Decides IsVerdict (Ok done) = IsVerdict Shown
Decides IsVerdict (Err (At reason)) = IsVerdict (Not reason)
Decides IsVerdict (Err NoMemory) = Unit {0}
