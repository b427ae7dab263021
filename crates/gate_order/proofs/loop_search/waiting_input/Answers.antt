-- A gate that waits has an input that waits, and the first one is found.
use Rattle.gate_order.proofs.Vocabulary.{◌≡◌, Some, sym, ◌∙◌, find}
use Rattle.gate_order.proofs.WaitingInputs.{waits, finds_input, found_input}
use Rattle.gate_order.proofs.loop_search.waiting_input.Goals as goal

pub unwrap-requires : goal.unwrap-requires
unwrap-requires c =
    let read = rw c.as_slice.ensures at c.index-as_slice-gate.is in
    rw (c.first_waiting.ensures, c.as_slice-2.ensures)
    (finds_input _ _ _ c.requires.wait c.requires.waits _ read)

pub returns : goal.returns
returns c =
    let read = rw c.as_slice.ensures at c.index-as_slice-gate.is in
    let found : find (waits c.args.waiting.now) c.index-as_slice-gate.result.fan_in
    ≡ Some c.unwrap.result =
    rw c.as_slice-2.ensures at (sym c.first_waiting.ensures ∙ c.unwrap.ensures) in
    let input = found_input _ _ _ c.requires.wait c.requires.waits _ read c.unwrap.result found in
    record { reads = input.0; waits = input.1 }
