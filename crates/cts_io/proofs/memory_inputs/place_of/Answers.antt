use Rattle.cts_io.proofs.HeldLemmas.{place-found, place-none}
use Rattle.cts_io.proofs.memory_inputs.place_of.Goals as goal

pub returns-clause-found : goal.returns-clause-found
returns-clause-found c = place-found c.args.files.now c.args.name.now c.first_named.result
    (rw c.as_bytes.ensures.value at c.first_named.ensures)

pub returns-clause-none : goal.returns-clause-none
returns-clause-none c = place-none c.args.files.now c.args.name.now c.first_named.result
    (rw c.as_bytes.ensures.value at c.first_named.ensures)
