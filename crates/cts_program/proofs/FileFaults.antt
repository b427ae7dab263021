-- What refuses a placement or a report is the failure that it is reported as.
use Rattle.cts_program.proofs.Vocabulary.{◌≡◌, ◌≢◌, ◌<◌, ℕ, List, length, Some, Err, inl, inr, refl, sym, ap, ◌∙◌, told_err, Circuit, Problem, PlaceFault, ReportFault, report_failure_of, Refuses, OrMemory, placed}
use Rattle.cts_base.specs.LineFormats.{IsToldBy}
use Rattle.place_reader.specs.declared.fault.PlaceFault.TheVariants as place
use Rattle.place_reader.specs.Placements.{places_in}
use Rattle.place_reader.proofs.TellsPlaces.{unplaced_within}
use Rattle.report_text.specs.declared.fault.ReportFault.TheVariants as report
use Rattle.report_text.specs.ReportFaults.{HasFault}
use Rattle.failure_lines.specs.declared.file_kind.FileKind.TheVariants as kinds

-- a register that has no place is one of the circuit
pub unplaced_told : (circuit : Circuit) (source host text : List ℕ) (fault : PlaceFault)
    → IsToldBy place.NoMemory (places_in text circuit source host) (Err fault) → (register : ℕ)
    → fault ≡ place.NoPlace register → register < length circuit.registers
unplaced_told circuit source host text fault told register is =
    elim (told_err place.NoMemory (places_in text circuit source host) fault told) [
      | inl refused ↦ unplaced_within text circuit source host register (refused ∙ ap Err is)
      | inr memory ↦ let same = sym memory ∙ is in cc same
    ]

-- a text that is no report isn't shown, unless memory runs out
pub refused_report : (problem : Problem) (bytes : List ℕ) (found : ReportFault)
    → (found ≢ report.NoMemory → HasFault problem.circuit problem.tech bytes (Some found))
    → OrMemory (Refuses kinds.Report (placed problem) bytes) (report_failure_of found)
refused_report problem bytes report.NoMemory has = inr refl
refused_report problem bytes found has = inl (found, refl, (λ e. cc e), has (λ e. cc e))
