-- A netlist has no fault.
use Rattle.bench_reader.proofs.Vocabulary.{◌∙◌, ℕ, List, inl, inr, sym, BenchFault, IsNetlist, RefusesNetlist}

pub no_fault : (text : List ℕ) (fault : BenchFault) → IsNetlist text → RefusesNetlist text fault
    → ⊥
no_fault text fault netlist (inl found) = cc (sym netlist.flawless ∙ found)
no_fault text fault netlist (inr (names, same, looped)) =
    netlist.no_loop looped.loop looped.named.ring
