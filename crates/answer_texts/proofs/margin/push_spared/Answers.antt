use Rattle.answer_texts.proofs.Vocabulary.{◌≡◌, ◌∙◌, ◌++◌, ◌∷◌, [], OnOk, ap, append_assoc, codes, length, subst, line_of, text_of, all_at_zero, arrival_lines}
use Rattle.answer_texts.proofs.ArrivalLemmas.{small_can_print}
use Rattle.answer_texts.proofs.CycleRegisters.{cycle_among}
use Rattle.answer_texts.proofs.margin.push_spared.Goals as goal

pub push_cycle-requires : goal.push_cycle-requires
push_cycle-requires c =
    rw c.as_slice.ensures (cycle_among c.args.circuit.now c.requires.outcome.0 c.in-Found.cycle
    (rw c.in-Found.is at c.requires.outcome.1.1).of_circuit)

pub push_arrivals-requires-clause-small : goal.push_arrivals-requires-clause-small
push_arrivals-requires-clause-small c =
    small_can_print c.in-Found.schedule (rw c.in-Found.is at c.requires.small)

pub returns-in_ok-at_zero-in-Unbounded : goal.returns-in_ok-at_zero-in-Unbounded
returns-in_ok-at_zero-in-Unbounded c =
    let circuit = c.args.circuit.now in
    let zeros = all_at_zero (length circuit.registers) in
    let old = c.args.out.now.items in
    let result = c.push_arrivals-in-Unbounded.result in
    let new = c.push_arrivals-in-Unbounded.new.out.items in
    let unbounded = codes "margin" ∷ codes "none" ∷ [] in
    let first : c.push_line.new.out.items ≡ old ++ line_of unbounded =
    c.in_ok-push_line-in-Unbounded.ensures in
    let are : c.in_ok-at_zero-in-Unbounded.at_zero ≡ zeros =
    c.in_ok-at_zero-in-Unbounded.ensures ∙ ap all_at_zero c.len.ensures in
    let last = subst (λ schedule. OnOk result (new
    ≡ c.push_line.new.out.items ++ text_of (arrival_lines circuit schedule))) are
    c.push_arrivals-in-Unbounded.ensures in
    let both = subst (λ mid. OnOk result (new ≡ mid ++ text_of (arrival_lines circuit zeros)))
    first last in
    rw c.in-Unbounded.is (subst (λ all. OnOk result (new ≡ all))
    (append_assoc old (line_of unbounded) (text_of (arrival_lines circuit zeros))) both)
