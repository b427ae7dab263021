-- The eight gate kinds, one after the other.
use Rattle.cts_model.proofs.Vocabulary.{◌≡◌, ◌↔◌, Bool, false, IsTrue, List, [], ◌∷◌, Any, refl, get_or, Kind, And, Nand, Or, Nor, Not, Xor, Xnor, Buff, Input, Dff, Host, Signal, is_gate, place_of, AreUsedKinds}

-- some signal has the kind
abbrev Uses : List Signal → Kind → Type 0
Uses signals kind = Any (λ signal. signal.kind ≡ kind) signals

-- an answer for each kind is one for all
pub used_by_each : (signals : List Signal) (a b c d e f g h : Bool) → IsTrue a ↔ Uses signals And
    → IsTrue b ↔ Uses signals Nand → IsTrue c ↔ Uses signals Or → IsTrue d ↔ Uses signals Nor
    → IsTrue e ↔ Uses signals Not → IsTrue f ↔ Uses signals Xor → IsTrue g ↔ Uses signals Xnor
    → IsTrue h ↔ Uses signals Buff → AreUsedKinds signals (a ∷ b ∷ c ∷ d ∷ e ∷ f ∷ g ∷ h ∷ [])
used_by_each signals a b c d e f g h in_a in_b in_c in_d in_e in_f in_g in_h =
    record { eight = refl; each = at }
  where
    at : (kind : Kind) → IsTrue (is_gate kind)
        → IsTrue (get_or (a ∷ b ∷ c ∷ d ∷ e ∷ f ∷ g ∷ h ∷ []) (place_of kind) false)
        ↔ Uses signals kind
    at And gate = in_a
    at Nand gate = in_b
    at Or gate = in_c
    at Nor gate = in_d
    at Not gate = in_e
    at Xor gate = in_f
    at Xnor gate = in_g
    at Buff gate = in_h
    at Input gate = cc
    at Dff gate = cc
    at Host gate = cc
