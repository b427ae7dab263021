-- A file tells one thing, or is refused with one status, and not both.
use Rattle.cts_program.proofs.Vocabulary.{ℕ, ◌≡◌, ◌≢◌, ◌==◌, ◌⊎◌, inl, inr, List, [], ◌∷◌, ◌++◌, length, Some, None, refl, ap, ap₂, sym, ◌∙◌, subst, Circuit, Tech, PlaceFault, ReportFault, IsHostedBy, TellsDelays, HasFaultFor, Failure, TooLong, FileKind, status_of, bench_failure_of, tech_failure_of, place_failure_of, topology_failure_of, moves_failure_of, report_failure_of, DiffersFromFirst, Means, Refuses, IsAcceptedAs, IsRefusedAs, Told, nothing, bare, timed, placed, reported, joined, moving, TellsCircuit, TellsTech}
use Rattle.cts_base.proofs.Told as told
use Rattle.cts_model.specs.declared.signal.Signal.{Signal}
use Rattle.cts_model.proofs.OneRecord.{one_use, same_tech}
use Rattle.cts_model.specs.table.PlainTable.{IsPlainTable}
use Rattle.bench_reader.specs.declared.fault.BenchFault.{BenchFault}
use Rattle.bench_reader.specs.declared.fault.BenchFault.TheVariants as bench
use Rattle.bench_reader.proofs.OneFault.{no_fault}
use Rattle.delay_tables.specs.Refusals.{RefusesTable}
use Rattle.delay_tables.specs.declared.fault.TechFault.{TechFault}
use Rattle.delay_tables.specs.declared.fault.TechFault.TheVariants as tech
use Rattle.delay_tables.proofs.OneFault.{not_refused}
use Rattle.move_session.specs.declared.fault.MovesFault.{MovesFault}
use Rattle.move_session.specs.declared.fault.MovesFault.TheVariants as moves
use Rattle.place_reader.specs.declared.fault.PlaceFault.TheVariants as place
use Rattle.report_text.specs.declared.fault.ReportFault.TheVariants as report
use Rattle.topology_file.specs.declared.fault.TopologyFault.{TopologyFault}
use Rattle.topology_file.specs.declared.fault.TopologyFault.TheVariants as topology
use Rattle.report_text.specs.ReportFaults.{OneReport, OneFault, NoFaultOfReport}
use Rattle.cts_engine.proofs.OneProblem.{one_netlist, one_hosted, one_delays, same_problem}
use Rattle.failure_lines.specs.declared.file_kind.FileKind.TheVariants as kinds

-- what is known of the texts of reports
pub record ReportLaws : Type 0 where
  pub one_report : OneReport
  pub one_fault : OneFault
  pub no_fault : NoFaultOfReport

-- ---- what is told

-- what is told tells one circuit
pub one_circuit : (told : Told) (circuit other : Circuit) → TellsCircuit told circuit
    → TellsCircuit told other → circuit ≡ other
one_circuit nothing circuit other tells tells' = absurd tells
one_circuit (bare only []) circuit other tells tells' = tells ∙ sym tells'
one_circuit (bare only (tech ∷ techs)) circuit other tells tells' =
    one_hosted (length tech.host == 0) only circuit other tells tells'
one_circuit (timed here tech) circuit other tells tells' = tells ∙ sym tells'
one_circuit (placed problem) circuit other tells tells' = tells ∙ sym tells'
one_circuit (reported problem report) circuit other tells tells' = tells ∙ sym tells'
one_circuit (joined problem topology) circuit other tells tells' = tells ∙ sym tells'
one_circuit (moving problem moves) circuit other tells tells' = tells ∙ sym tells'

-- the built-in delays are one table
one_plain : (tech other : Tech) → IsPlainTable tech → IsPlainTable other → tech ≡ other
one_plain tech other plain plain' =
    same_tech tech other (plain.wire_num ∙ sym plain'.wire_num)
    (plain.wire_den ∙ sym plain'.wire_den) (plain.source ∙ sym plain'.source)
    (plain.setup ∙ sym plain'.setup) (plain.hold ∙ sym plain'.hold)
    (plain.least ∙ sym plain'.least) (plain.greatest ∙ sym plain'.greatest)
    (plain.host ∙ sym plain'.host) (plain.floor ∙ sym plain'.floor) (plain.gates ∙ sym plain'.gates)

-- and one table
pub one_tech : (told : Told) (tech other : Tech) → TellsTech told tech → TellsTech told other
    → tech ≡ other
one_tech nothing tech other tells tells' = absurd tells
one_tech (bare only techs) tech other tells tells' = one_plain tech other tells tells'
one_tech (timed circuit here) tech other tells tells' = tells ∙ sym tells'
one_tech (placed problem) tech other tells tells' = tells ∙ sym tells'
one_tech (reported problem report) tech other tells tells' = tells ∙ sym tells'
one_tech (joined problem topology) tech other tells tells' = tells ∙ sym tells'
one_tech (moving problem moves) tech other tells tells' = tells ∙ sym tells'

-- ---- one file

-- a table that tells its delays has no fault
delays_fine : (signals : List Signal) (bytes : List ℕ) (tech : Tech) (fault : TechFault)
    → TellsDelays signals bytes tech → HasFaultFor signals bytes fault → ⊥
delays_fine signals bytes tech fault tells has =
    let used = one_use signals has.used tells.used has.kinds tells.kinds in
    has.named (not_refused tells.used bytes fault (record {
      document = tells.accepts.document;
      reads = tells.accepts.reads;
      flawless = tells.accepts.flawless;
    }) (subst (λ u. RefusesTable u bytes fault) used has.cause))

module _ (laws : ReportLaws) where
  -- it tells one thing
  one_meaning : (kind : FileKind) (before : Told) (bytes : List ℕ) (next other : Told)
      → Means kind before bytes next → Means kind before bytes other → next ≡ other
  one_meaning kinds.Bench nothing bytes next other (circuit, is, accepts)
      (circuit', is', accepts') =
      is ∙ ap (λ c. bare c []) (one_netlist bytes circuit circuit' accepts accepts') ∙ sym is'
  one_meaning kinds.Tech (bare only []) bytes next other (circuit, tech, is, tells, hosted)
      (circuit', tech', is', tells', hosted') =
      let same = one_delays only.signals bytes tech tech' tells tells' in
      let hosted_too = subst (λ t. IsHostedBy t only circuit') (sym same) hosted' in
      is ∙ ap₂ timed (one_hosted (length tech.host == 0) only circuit circuit' hosted hosted_too)
      same
      ∙ sym is'
  one_meaning kinds.Placement (timed circuit tech) bytes next other
      (problem, is, circuit_is, tech_is, accepts) (problem', is', circuit_is', tech_is', accepts') =
      is ∙ ap placed (same_problem problem problem' (circuit_is ∙ sym circuit_is')
      (tech_is ∙ sym tech_is')
      (told.one_value _ problem.places problem'.places accepts accepts')) ∙ sym is'
  one_meaning kinds.Report (placed problem) bytes next other (report, is, spells)
      (report', is', spells') =
      is ∙ ap (reported problem) (laws.one_report problem.circuit problem.tech bytes report report'
      spells spells') ∙ sym is'
  one_meaning kinds.Topology (placed problem) bytes next other (topology, is, accepts)
      (topology', is', accepts') =
      is ∙ ap (joined problem) (told.one_value _ topology topology' accepts accepts') ∙ sym is'
  one_meaning kinds.Moves (placed problem) bytes next other (moves, is, accepts)
      (moves', is', accepts') =
      is ∙ ap (moving problem) (told.one_value _ moves moves' accepts accepts') ∙ sym is'
  one_meaning (kinds.Corner number) (bare only techs) bytes next other (tech, is, tells, alike)
      (tech', is', tells', alike') =
      is ∙ ap (λ t. bare only (techs ++ t ∷ []))
      (one_delays only.signals bytes tech tech' tells tells') ∙ sym is'
  one_meaning kind before bytes next other means means' = absurd means

  -- and has no fault then
  no_refusal : (kind : FileKind) (before : Told) (bytes : List ℕ) (next : Told) (failure : Failure)
      → Means kind before bytes next → Refuses kind before bytes failure → ⊥
  no_refusal kinds.Bench nothing bytes next failure (circuit, is, accepts)
      (fault, is', known, has) =
      no_fault bytes fault accepts.netlist has
  no_refusal kinds.Tech (bare only []) bytes next failure (circuit, tech, is, tells, hosted)
      (fault, is', has) = delays_fine only.signals bytes tech fault tells has
  no_refusal kinds.Placement (timed circuit tech) bytes next failure
      (problem, is, circuit_is, tech_is, accepts) (fault, is', known, refuses) =
      told.not_both _ problem.places fault accepts refuses
  no_refusal kinds.Report (placed problem) bytes next failure (report, is, spells)
      (fault, is', named, has) =
      let none = laws.no_fault problem.circuit problem.tech bytes report spells in
      let same : None ≡ Some fault =
      laws.one_fault problem.circuit problem.tech bytes None (Some fault) none has in
      cc same
  no_refusal kinds.Topology (placed problem) bytes next failure (topology, is, accepts)
      (fault, is', known, refuses) = told.not_both _ topology fault accepts refuses
  no_refusal kinds.Moves (placed problem) bytes next failure (moves, is, accepts)
      (fault, is', known, refuses) = told.not_both _ moves fault accepts refuses
  no_refusal (kinds.Corner number) (bare only techs) bytes next failure (tech, is, tells, alike)
      (inl (fault, is', has)) = delays_fine only.signals bytes tech fault tells has
  no_refusal (kinds.Corner number) (bare only techs) bytes next failure (tech, is, tells, alike)
      (inr (is', (tech', tells', differs))) =
      alike (subst (DiffersFromFirst techs) (one_delays only.signals bytes tech' tech tells' tells)
      differs)
  no_refusal kind before bytes next failure means refuses = absurd means

  -- so it is with one that isn't too long
  pub one_next : (kind : FileKind) (before : Told) (bytes : List ℕ) (next other : Told)
      → IsAcceptedAs kind before bytes next → IsAcceptedAs kind before bytes other → next ≡ other
  one_next kind before bytes next other accepted accepted' =
      one_meaning kind before bytes next other accepted.1 accepted'.1

  pub accepted_fine : (kind : FileKind) (before : Told) (bytes : List ℕ) (next : Told)
      (failure : Failure) → IsAcceptedAs kind before bytes next
      → IsRefusedAs kind before bytes failure → ⊥
  accepted_fine kind before bytes next failure accepted (inl (is, long)) = long accepted.0
  accepted_fine kind before bytes next failure accepted (inr (short, refuses)) =
      no_refusal kind before bytes next failure accepted.1 refuses

-- a row of the table has the status of its kind
bench_status : (fault : BenchFault) → fault ≢ bench.NoMemory
    → status_of (bench_failure_of fault) ≡ 3
bench_status bench.NoMemory known = absurd (known refl)
bench_status fault known = refl

tech_status : (kind : FileKind) (fault : TechFault) → fault ≢ tech.NoMemory
    → status_of (tech_failure_of kind fault) ≡ status_of (TooLong kind)
tech_status kind tech.NoMemory known = absurd (known refl)
tech_status kinds.Report fault known = refl
tech_status kind fault known = refl

place_status : (circuit : Circuit) (fault : PlaceFault) → fault ≢ place.NoMemory
    → status_of (place_failure_of circuit fault) ≡ 3
place_status circuit place.NoMemory known = absurd (known refl)
place_status circuit fault known = refl

report_status : (fault : ReportFault) → fault ≢ report.NoMemory
    → status_of (report_failure_of fault) ≡ 7
report_status report.NoMemory known = absurd (known refl)
report_status fault known = refl

topology_status : (fault : TopologyFault) → fault ≢ topology.NoMemory
    → status_of (topology_failure_of fault) ≡ 3
topology_status topology.NoMemory known = absurd (known refl)
topology_status fault known = refl

moves_status : (fault : MovesFault) → fault ≢ moves.NoMemory
    → status_of (moves_failure_of fault) ≡ 3
moves_status moves.NoMemory known = absurd (known refl)
moves_status fault known = refl

-- a refusal has the status of its kind: 7 for a report, and 3 for any other file
kind_status : (kind : FileKind) (before : Told) (bytes : List ℕ) (failure : Failure)
    → Refuses kind before bytes failure → status_of failure ≡ status_of (TooLong kind)
kind_status kinds.Bench nothing bytes failure (fault, is, known, has) =
    ap status_of is ∙ bench_status fault known
kind_status kinds.Tech (bare only []) bytes failure (fault, is, has) =
    ap status_of is ∙ tech_status kinds.Tech fault has.named
kind_status kinds.Placement (timed circuit tech) bytes failure (fault, is, known, has) =
    ap status_of is ∙ place_status circuit fault known
kind_status kinds.Report (placed problem) bytes failure (fault, is, known, has) =
    ap status_of is ∙ report_status fault known
kind_status kinds.Topology (placed problem) bytes failure (fault, is, known, has) =
    ap status_of is ∙ topology_status fault known
kind_status kinds.Moves (placed problem) bytes failure (fault, is, known, has) =
    ap status_of is ∙ moves_status fault known
kind_status (kinds.Corner number) (bare only techs) bytes failure (inl (fault, is, has)) =
    ap status_of is ∙ tech_status (kinds.Corner number) fault has.named
kind_status (kinds.Corner number) (bare only techs) bytes failure (inr refuses) =
    ap status_of refuses.0
kind_status kind before bytes failure refuses = absurd refuses

pub refused_status : (kind : FileKind) (before : Told) (bytes : List ℕ) (failure : Failure)
    → IsRefusedAs kind before bytes failure → status_of failure ≡ status_of (TooLong kind)
refused_status kind before bytes failure (inl (is, long)) = ap status_of is
refused_status kind before bytes failure (inr (short, refuses)) =
    kind_status kind before bytes failure refuses

-- which is one of the two
pub two_statuses : (kind : FileKind)
    → (status_of (TooLong kind) ≡ 3) ⊎ (status_of (TooLong kind) ≡ 7)
two_statuses kinds.Report = inr refl
two_statuses kind = inl refl
