use Rattle.schedule.proofs.Vocabulary.{subst, IsWhole}
use Rattle.schedule.proofs.LeadLemmas.{EachLead-whole, low_depth}
use Rattle.schedule.proofs.tight.leads.Goals as goal

pub returns-clause-each : goal.returns-clause-each
returns-clause-each c =
    let whole = subst (λ arrivals. IsWhole arrivals c.reach_all.new.self) c.in_ok-of.ensures
    c.in_ok-reach_all.ensures in
    rw (c.from_vec.ensures, ← c.as_slice.ensures, ← c.as_slice-2.ensures) (EachLead-whole
    whole (rw (c.as_slice.ensures, c.as_slice-2.ensures) c.requires.least))

pub returns-clause-low : goal.returns-clause-low
returns-clause-low c = λ register.
    let whole = subst (λ arrivals. IsWhole arrivals c.reach_all.new.self) c.in_ok-of.ensures
    c.in_ok-reach_all.ensures in
    rw (c.from_vec.ensures, ← c.requires.registers, ← c.as_slice-2.ensures) (low_depth
    whole (rw (c.as_slice.ensures, c.as_slice-2.ensures) c.requires.least)
    register)
