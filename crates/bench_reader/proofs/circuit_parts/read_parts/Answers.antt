-- What is said is taken in one after the other.
use Rattle.bench_reader.proofs.Vocabulary.{◌∙◌, Some, inl, inr, sym, ap, arith, err_from_is_err_and, drop_all, kept_of}
use Rattle.bench_reader.proofs.PartWalk.{all_denoted, denotes_next, denotes_none, few_so_far, has_kind_next, kept_length, left_next, undefined_next}
use Rattle.bench_reader.proofs.circuit_parts.read_parts.Goals as goal

pub loop-place-init : goal.loop-place-init
loop-place-init c =
    denotes_none c.args.reading.now.valid (c.new-parts.ensures c.args.reading.now.names)

pub add-requires-clause-kind : goal.add-requires-clause-kind
add-requires-clause-kind c =
    let said = c.args.reading.now.said.items in
    has_kind_next c.args.reading.now.valid c.loop-place.invariant _ _ _
    (left_next said c.loop-place.place c.index.result.now
    (omega (arith, c.len-place-end.ensures, c.loop-place-test.true)) c.index.ensures)

pub add-requires-clause-few : goal.add-requires-clause-few
add-requires-clause-few c = few_so_far c.args.reading.now.valid c.loop-place.invariant

pub loop-place-preserved : goal.loop-place-preserved
loop-place-preserved c =
    let said = c.args.reading.now.said.items in
    denotes_next c.args.reading.now.valid c.loop-place.invariant _ _ _
    (left_next said c.loop-place.place c.index.result.now
    (omega (arith, c.len-place-end.ensures, c.loop-place-test.true)) c.index.ensures)
    c.in_ok-add.ensures.denoted

pub returns-in_err-add-clause-refused : goal.returns-in_err-add-clause-refused
returns-in_err-add-clause-refused c =
    let said = c.args.reading.now.said.items in
    let p = err_from_is_err_and c.from_residual.result c.from_residual.ensures.1 in
    rw (p.1, p.2) (elim c.in_err-add.ensures.refused [
      | inl used ↦ inl (undefined_next c.args.reading.now.valid c.loop-place.invariant _ _ _
          (left_next said c.loop-place.place c.index.result.now
          (omega (arith, c.len-place-end.ensures, c.loop-place-test.true)) c.index.ensures) used.1
          ∙ ap Some (sym used.0))
      | inr memory ↦ inr memory
    ])

pub returns-clause-denoted : goal.returns-clause-denoted
returns-clause-denoted c =
    let said = c.args.reading.now.said.items in
    all_denoted c.args.reading.now.valid c.loop-place.invariant
    (drop_all c.loop-place.place (kept_of said)
    (omega (arith, kept_length said, c.len-place-end.ensures, c.loop-place-test.false)))
