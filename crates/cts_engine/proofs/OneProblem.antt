-- The texts of a problem tell one circuit, one table and one problem, and texts that tell a problem
-- have no refusal.
use Rattle.cts_engine.proofs.Vocabulary.{ℕ, ◌≡◌, ◌⊎◌, inl, inr, Bool, true, false, ◌==◌, List, length, Result, Ok, Err, IfOk, IfErr, refl, ap, sym, ◌∙◌, subst, Circuit, Places, Problem, Signal, Tech, AcceptsTable, IsWithHost, IsProblem, AreUsedKinds, not_both, one_value, AcceptsNetlist, TechFault, PlaceFault, AcceptsPlacement, Refusal, IsHostedBy, TellsDelays, TellBoth, TellAll, IsTableOf, IsPlacementOf, HasTableFault, HasPlacesFault, IsProblemRefusal}
use Rattle.std.proofs.Common.{MatchBool}
use Rattle.std.proofs.Props.{props}
use Rattle.cts_model.specs.Vocabulary.{signals_of}
use Rattle.cts_model.proofs.OneRecord.{same_circuit, one_use}
use Rattle.bench_reader.proofs.OneFault.{no_fault}
use Rattle.delay_tables.specs.Refusals.{RefusesTable}
use Rattle.delay_tables.proofs.OneFault.{not_refused}
use Rattle.delay_tables.proofs.OneTable.{one_table}
use Rattle.place_reader.specs.Placements as placements
use Rattle.cts_engine.specs.declared.refusals.Refusal.TheVariants as refusals

-- ---- one circuit and one table

-- a netlist denotes one circuit
pub one_netlist : (bytes : List ℕ) (circuit other : Circuit) → AcceptsNetlist bytes circuit
    → AcceptsNetlist bytes other → circuit ≡ other
one_netlist bytes circuit other accepts accepts' =
    same_circuit circuit other (accepts.signals ∙ sym accepts'.signals)
    (accepts.registers ∙ sym accepts'.registers) (accepts.outputs ∙ sym accepts'.outputs)

-- with the host or without, it stays one
pub one_hosted : (hostless : Bool) (bare circuit other : Circuit)
    → MatchBool hostless (circuit ≡ bare) (IsWithHost bare circuit)
    → MatchBool hostless (other ≡ bare) (IsWithHost bare other) → circuit ≡ other
one_hosted true bare circuit other hosted hosted' = hosted ∙ sym hosted'
one_hosted false bare circuit other hosted hosted' =
    same_circuit circuit other (hosted.signals ∙ sym hosted'.signals)
    (hosted.registers ∙ sym hosted'.registers) (hosted.outputs ∙ sym hosted'.outputs)

-- a table tells one list of delays
pub one_delays : (signals : List Signal) (table : List ℕ) (tech other : Tech)
    → TellsDelays signals table tech → TellsDelays signals table other → tech ≡ other
one_delays signals table tech other tells tells' =
    let used : tells'.used ≡ tells.used =
    one_use signals tells'.used tells.used tells'.kinds tells.kinds in
    one_table tells.used table tech other tells.accepts
    (subst (λ u. AcceptsTable u table other) used tells'.accepts)

-- a netlist and a delay table tell one circuit and one table
pub one_both : (netlist table : List ℕ) (circuit other : Circuit) (tech tech' : Tech)
    → TellBoth netlist table circuit tech → TellBoth netlist table other tech'
    → (circuit ≡ other) × (tech ≡ tech')
one_both netlist table circuit other tech tech' tell tell' =
    let bare : tell'.bare ≡ tell.bare =
    one_netlist netlist tell'.bare tell.bare tell'.accepts tell.accepts in
    let same : tech' ≡ tech =
    one_delays tell.bare.signals table tech' tech
    (subst (λ (c : Circuit). TellsDelays c.signals table tech') bare tell'.delays) tell.delays in
    let hosted' = subst (λ c. IsHostedBy tech c other) bare
    (subst (λ t. IsHostedBy t tell'.bare other) same tell'.hosted) in
    (one_hosted (length tech.host == 0) tell.bare circuit other tell.hosted hosted', sym same)

-- ---- one problem

-- what a problem is made of
abbrev Parts : Type 0
Parts = Circuit × Tech × Places

-- a problem of its parts
problem_of_parts : (parts : Parts) → IsProblem parts.0 parts.1 parts.2 → Problem
problem_of_parts parts valid =
    record { circuit = parts.0; tech = parts.1; places = parts.2; valid = valid }

-- they make one in one way
one_validity : (parts : Parts) → IsProp (IsProblem parts.0 parts.1 parts.2)
one_validity parts = hlevel props

-- so problems of the same parts are one
problem_same : (parts others : Parts) → parts ≡ others
    → (valid : IsProblem parts.0 parts.1 parts.2) (valid' : IsProblem others.0 others.1 others.2)
    → problem_of_parts parts valid ≡ problem_of_parts others valid'
unfolding problem_of_parts
problem_same parts others same valid valid' =
    subst (λ (p : Parts). (v : IsProblem p.0 p.1 p.2)
    → problem_of_parts parts valid ≡ problem_of_parts p v) same
    (λ v. ap (problem_of_parts parts) (one_validity parts valid v)) valid'

-- and so are those with the same circuit, delays and places
pub same_problem : (problem other : Problem) → problem.circuit ≡ other.circuit
    → problem.tech ≡ other.tech → problem.places ≡ other.places → problem ≡ other
unfolding problem_of_parts
same_problem problem other circuit tech places =
    problem_same (problem.circuit, problem.tech, problem.places)
    (other.circuit, other.tech, other.places) (λ i. (circuit i, tech i, places i))
    problem.valid other.valid

-- ---- no refusal

-- a table that tells delays for the signals of a netlist is one of it
pub table_accepted : (netlist table : List ℕ) (signals : List Signal) (tech : Tech)
    → signals ≡ signals_of netlist → TellsDelays signals table tech → IsTableOf netlist table
table_accepted netlist table signals tech same tells = record {
  used = tells.used;
  kinds = subst (λ s. AreUsedKinds s tells.used) same tells.kinds;
  table = record {
    document = tells.accepts.document;
    reads = tells.accepts.reads;
    flawless = tells.accepts.flawless;
  };
}

-- it has no fault
pub table_fine : (netlist table : List ℕ) (fault : TechFault) → IsTableOf netlist table
    → HasTableFault netlist table fault → ⊥
table_fine netlist table fault accepted has =
    let used = one_use (signals_of netlist) has.used accepted.used has.kinds accepted.kinds in
    has.named (not_refused accepted.used table fault accepted.table
    (subst (λ u. RefusesTable u table fault) used has.cause))

module _ (netlist table placement : List ℕ) where
  -- three texts tell one problem
  pub one_problem : (problem other : Problem) → TellAll netlist table placement problem
      → TellAll netlist table placement other → problem ≡ other
  one_problem problem other denotes denotes' =
      let (circuit, tech) = one_both netlist table other.circuit problem.circuit other.tech
      problem.tech denotes'.tell denotes.tell in
      let placed = subst (λ t. AcceptsPlacement placement problem.circuit t.source t.host
      other.places) tech (subst (λ c. AcceptsPlacement placement c other.tech.source other.tech.host
      other.places) circuit denotes'.places) in
      same_problem problem other (sym circuit) (sym tech)
      (one_value _ problem.places other.places denotes.places placed)

  -- nor has a placement that is accepted
  pub placement_fine : (fault : PlaceFault) → IsPlacementOf netlist table placement
      → HasPlacesFault netlist table placement fault → ⊥
  placement_fine fault accepted has =
      let (circuit, tech) = one_both netlist table has.circuit accepted.circuit has.tech
      accepted.tech has.tell accepted.tell in
      let cause =
      subst (λ t. placements.RefusesPlacement placement accepted.circuit t.source t.host fault)
      tech (subst (λ c. placements.RefusesPlacement placement c has.tech.source has.tech.host fault)
      circuit has.cause) in
      not_both _ accepted.placement.0 fault accepted.placement.1 cause

  -- nor have texts that tell a problem a refusal
  unrefused : (problem : Problem) → TellAll netlist table placement problem → (refusal : Refusal)
      → IsProblemRefusal netlist table placement refusal → refusal ≡ refusals.NoMemory
  unrefused problem denotes (refusals.Bench fault) has =
      absurd (no_fault netlist fault denotes.tell.accepts.netlist has)
  unrefused problem denotes (refusals.Tech fault) (accepted, has) =
      let tell = denotes.tell in
      absurd (table_fine netlist table fault (table_accepted netlist table tell.bare.signals
      problem.tech tell.accepts.signals tell.delays) has)
  unrefused problem denotes (refusals.Places fault) (accepted, accepted', has) =
      absurd (placement_fine fault (record {
        circuit = problem.circuit;
        tech = problem.tech;
        tell = denotes.tell;
        placement = (problem.places, denotes.places);
      }) has)
  unrefused problem denotes refusals.NoMemory any = refl

  -- so an answer that is right on them is their problem, or want of memory
  pub denoted_alone : (result : Result Problem Refusal)
      → IfOk result (TellAll netlist table placement)
      → IfErr result (IsProblemRefusal netlist table placement)
      → (problem : Problem) → TellAll netlist table placement problem
      → (result ≡ Ok problem) ⊎ (result ≡ Err refusals.NoMemory)
  denoted_alone (Ok other) denoted cause problem denotes =
      inl (ap (λ p. Ok p) (one_problem other problem denoted denotes))
  denoted_alone (Err refusal) denoted cause problem denotes =
      inr (ap (λ r. Err r) (unrefused problem denotes refusal cause))
