-- The constraints of tight leads, lead by lead.
use Rattle.cert_check.proofs.Vocabulary.{◌≡◌, ◌<◌, ◌+◌, ◌↔◌, ℕ, zero, suc, Bool, IsTrue, List, [], ◌∷◌, ◌++◌, All, length, take, get_or, Some, refl, ap, subst, ◌∙◌, arith, IfSome, slice_get, take_more, All-cons, All-head, All-nil, All-tail, Circuit, Constraint, Zero, Tight, Tech, IsConstraintOf, IsOfCircuit, IsBetweenRegisters, LeadsAmong, IsTested, tight_constraints}
use Rattle.std.proofs.lemmas.List.Elements.{filter_map-append}
use Rattle.cert_check.specs.TightLeads.{constraint_of}
use Rattle.cts_model.specs.declared.schedule.Lead.{Lead}

-- how many constraints the leads before a register have
abbrev pub tight_before : List Lead → (register : ℕ) → ℕ
tight_before leads register = length (tight_constraints (take register leads))

-- one lead more
pub tight_more : (leads : List Lead) (register : ℕ) (default : Lead) → register < length leads
    → tight_constraints (take (register + 1) leads)
    ≡ tight_constraints (take register leads)
    ++ tight_constraints (get_or leads register default ∷ [])
tight_more leads register default low = ap tight_constraints (take_more leads register default low)
    ∙ filter_map-append constraint_of (take register leads) (get_or leads register default ∷ [])

-- the constraint of a tight lead stands where those before end
tight_here : (leads : List Lead) (register depth : ℕ) (constraint : Constraint)
    → register < length leads → get_or leads register Zero ≡ Tight depth constraint
    → slice_get (tight_constraints leads) (tight_before leads register) ≡ Some constraint
tight_here [] register depth constraint low is = absurd (omega arith)
tight_here (Zero ∷ leads) zero depth constraint low is = absurd (cc is)
tight_here (Tight d other ∷ leads) zero depth constraint low is =
    let same : other ≡ constraint = cc is in ap Some same
tight_here (Zero ∷ leads) (suc register) depth constraint low is =
    tight_here leads register depth constraint (omega arith) is
tight_here (Tight d other ∷ leads) (suc register) depth constraint low is =
    tight_here leads register depth constraint (omega arith) is

-- so a test of the constraint there is one of the lead's
pub tight_tested : (circuit : Circuit) (tech : Tech) (leads : List Lead) (register : ℕ)
    → register < length leads → (given : Bool) → IsTrue given
    ↔ IsOfCircuit circuit tech (tight_constraints leads) (tight_before leads register)
    → IsTested circuit tech (get_or leads register Zero) given
tight_tested circuit tech leads register low given says = at (get_or leads register Zero) refl
  where
    at : (lead : Lead) → get_or leads register Zero ≡ lead → IsTested circuit tech lead given
    at Zero is = tt
    at (Tight depth constraint) is = subst (λ found. IsTrue given
        ↔ IfSome found (IsConstraintOf circuit tech))
        (tight_here leads register depth constraint low is) says

-- what all constraints of tight leads are, by the leads
tight_all : (P : Constraint → Type 0) (Q : Lead → Type 0)
    → ((depth : ℕ) (constraint : Constraint) → Q (Tight depth constraint) → P constraint)
    → (leads : List Lead) → All Q leads → All P (tight_constraints leads)
tight_all P Q each [] all = All-nil P
tight_all P Q each (Zero ∷ leads) all = tight_all P Q each leads (All-tail Q Zero leads all)
tight_all P Q each (Tight depth constraint ∷ leads) all =
    All-cons P constraint (tight_constraints leads)
    (each depth constraint (All-head Q (Tight depth constraint) leads all))
    (tight_all P Q each leads (All-tail Q (Tight depth constraint) leads all))

pub tight_among : (registers : ℕ) (leads : List Lead) → All (LeadsAmong registers) leads
    → All (IsBetweenRegisters registers) (tight_constraints leads)
tight_among registers = search (arith, tight_all)
