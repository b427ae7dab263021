-- Which calls of a device in memory fail. Calls are counted from 1.
use Rattle.std.specs.Prelude.{ℕ, ◌+◌, ◌-◌, ◌^◌, ◌==◌, min, Bool, List}
use Rattle.std.specs.List.{list_any}

-- the numbers of the calls that fail, how many calls were made, and how many of them failed
pub record PlanState : Type 0 where
  pub fails : List ℕ
  pub calls : ℕ
  pub faults : ℕ

-- a plan before its first call
abbrev pub fresh_plan : List ℕ → PlanState
fresh_plan numbers = record { fails = numbers; calls = 0; faults = 0 }

-- one more; a count stands still at its last value
abbrev pub raised : ℕ → ℕ
raised count = min (count + 1) (2 ^ 64 - 1)

-- the next call is one of those that fail
abbrev pub fails_next : PlanState → Bool
fails_next plan = list_any (λ number. number == raised plan.calls) plan.fails

-- the plan after a call
abbrev pub after_call : PlanState → PlanState
after_call plan = record plan { calls = raised plan.calls }

-- the plan with one more fault
abbrev pub with_fault : PlanState → PlanState
with_fault plan = record plan { faults = raised plan.faults }
