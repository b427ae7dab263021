-- The register that a verdict on a report is about is one of the circuit.
use Rattle.cts_program.proofs.Vocabulary.{◌≡◌, ◌<◌, ℕ, length, inl, inr, refl, sym, ◌∙◌, subst, Problem, length-sinks_of, Reason, reason_numbers}
use Rattle.cts_model.specs.declared.report.Report.{Report}
use Rattle.cts_model.specs.Vocabulary.{IsOfSize, sinks_in}
use Rattle.cert_check.specs.declared.verdict.Reason.TheVariants.{BelowFloor, CycleBroken, NotOfCircuit, CycleValue, ScheduleMisses, TreeShape, TooShort, WireSum, SkewDiffers, Unshown, Total, SlackDiffers, PathBroken, NotLeast}
use Rattle.cert_check.specs.declared.verdict.Subject.TheVariants.{Register}
use Rattle.cert_check.specs.declared.verdict.Verdict.TheVariants.{Not}
use Rattle.cert_check.specs.Judged.{Judged, JudgedOnce}
use Rattle.cert_check.specs.Verdicts.{IsVerdict}

-- a reason that is about a register is about one below this number
abbrev IsAmong : ℕ → Reason → Type 0
IsAmong registers reason =
    (register : ℕ) → (reason_numbers reason).1 ≡ Register register → register < registers

-- two verdicts that are one have one reason
one_reason : (reason other : Reason) → Not reason ≡ Not other → other ≡ reason
one_reason reason other is = cc is

-- two registers that are one have one number
same_register : {register other : ℕ} → Register register ≡ Register other → register ≡ other
same_register is = cc is

module _ {registers : ℕ} {reason : Reason} {Next : Type 0} where
  -- a judgement that fails at a place has that reason, and else the next one decides
  by_place : {places : ℕ} {Holds : ℕ → Type 0} (made : ℕ → Reason)
      → ((place : ℕ) → place < places → IsAmong registers (made place))
      → (Next → IsAmong registers reason) → Judged places Holds made (Not reason) Next
      → IsAmong registers reason
  by_place made here next (inl (place, first, is)) =
      subst (IsAmong registers) (one_reason reason (made place) is) (here place first.within)
  by_place made here next (inr (each, more)) = next more

  -- and so it is with one that has one place
  by_once : {Holds : Type 0} (made : Reason) → IsAmong registers made
      → (Next → IsAmong registers reason) → JudgedOnce Holds made (Not reason) Next
      → IsAmong registers reason
  by_once made here next (inl (fails, is)) =
      subst (IsAmong registers) (one_reason reason made is) here
  by_once made here next (inr (holds, more)) = next more

module _ (problem : Problem) (report : Report) (size : IsOfSize problem.circuit report) where
  -- there are as many sinks as registers
  as_many_sinks : length (sinks_in problem report) ≡ length problem.circuit.registers
  as_many_sinks =
      length-sinks_of report.period problem.tech problem.places.registers report.schedule.at
      (problem.valid.registers ∙ sym size.arrivals) ∙ size.arrivals

  -- the register of a verdict is one of the circuit
  pub reason_within : (reason : Reason) → IsVerdict problem report (Not reason)
      → (register : ℕ) → (reason_numbers reason).1 ≡ Register register
      → register < length problem.circuit.registers
  reason_within reason =
      by_once BelowFloor (λ register none. cc none)
      (by_place CycleBroken (λ place within register none. cc none)
      (by_place NotOfCircuit (λ place within register none. cc none)
      (by_once CycleValue (λ register none. cc none)
      (by_place ScheduleMisses (λ place within register is. subst (λ n. n < many) (same_register is) within)
      (by_place TreeShape (λ place within register none. cc none)
      (by_place TooShort (λ place within register none. cc none)
      (by_place WireSum (λ place within register none. cc none)
      (by_place SkewDiffers (λ place within register is.
      subst (λ n. n < many) (same_register is) (subst (λ n. place < n) as_many_sinks within))
      (by_place Unshown (λ place within register none. cc none)
      (by_once Total (λ register none. cc none)
      (by_place SlackDiffers (λ place within register is. subst (λ n. n < many) (same_register is) within)
      (by_place PathBroken (λ place within register none. cc none)
      (by_place NotLeast (λ place within register is. subst (λ n. n < many) (same_register is) within)
      (λ is. cc is))))))))))))))
    where
      many : ℕ
      many = length problem.circuit.registers
