use Rattle.cts_program.proofs.Vocabulary.{◌∙◌, [], ◌∷◌, map, string_bytes, inr, refl, subst, arith, length-append, take_all, err_from_is_err_and, Bench, corner_files, AreRead, bare}
use Rattle.cts_program.proofs.CornerFiles.{corner_read, corner_unread, corners_circuit, corners_acyclic}
use Rattle.cts_program.proofs.ReadLemmas.{none_read, read_more, unread_after}
use Rattle.cts_program.proofs.StepLemmas.{step_fails, step_counts}
use Rattle.cts_program.proofs.reading.corner_tables.read_corners.Goals as goal

pub returns-in_err-bare-clause-step : goal.returns-in_err-bare-clause-step
returns-in_err-bare-clause-step g c =
    let holds = g.I.Inputs.holds c.args.inputs.now in
    let p = err_from_is_err_and c.from_residual.result c.from_residual.ensures.1 in
    rw (p.1, p.2) (step_fails _ c.in_err-bare.ensures.step (unread_after holds (none_read holds)
    (Bench, c.args.bench.now) _ _ (corner_files 1 (map string_bytes c.args.tables.now)) _))

pub loop-place-init : goal.loop-place-init
loop-place-init g c =
    let holds = g.I.Inputs.holds c.args.inputs.now in
    let first = c.in_ok-bare.ensures.step in
    rw c.new-techs.ensures (record {
      read = read_more holds (none_read holds) (Bench, c.args.bench.now) first.gives;
      count = refl;
      files = first.files;
      stays = step_counts _ first;
    })

pub returns-in_err-tech-clause-step : goal.returns-in_err-tech-clause-step
returns-in_err-tech-clause-step g c =
    let before = c.loop-place.invariant in
    let table = c.index-tables-place.result in
    let p = err_from_is_err_and c.from_residual-in_err-tech.result
    c.from_residual-in_err-tech.ensures.1 in
    let step = rw (before.files, before.stays, c.as_str.ensures.value, c.as_slice.ensures) at
    c.in_err-tech.ensures.step in
    rw (p.1, p.2) (step_fails _ step (corner_unread (g.I.Inputs.holds c.args.inputs.now)
    c.args.bench.now c.args.tables.now c.loop-place.place table c.loop-place-test.true
    c.index-tables-place.is before.read _ _ _))

pub returns-in_err-push-clause-step : goal.returns-in_err-push-clause-step
returns-in_err-push-clause-step g c =
    let before = c.loop-place.invariant in
    let step = c.in_ok-tech.ensures.step in
    let p = err_from_is_err_and c.from_residual-in_err-push.result
    c.from_residual-in_err-push.ensures.1 in
    rw (p.1, p.2) (record {
      files = step.files ∙ before.files;
      counts = λ none. step_counts _ step ∙ before.stays;
      gives = tt;
      fails = inr refl;
    })

pub loop-place-preserved : goal.loop-place-preserved
loop-place-preserved g c =
    let before = c.loop-place.invariant in
    let table = c.index-tables-place.result in
    let step = c.in_ok-tech.ensures.step in
    let last = rw (before.files, before.stays, c.as_str.ensures.value, c.as_slice.ensures) at step
    in
    rw c.in_ok-push.ensures.ok (record {
      read = corner_read (g.I.Inputs.holds c.args.inputs.now) c.args.bench.now c.args.tables.now
          c.loop-place.place table c.loop-place-test.true c.index-tables-place.is before.read
          last.gives;
      count = omega (
        arith,
        before.count,
        length-append c.loop-place.techs (c.in_ok-tech.tech ∷ []),
      );
      files = step.files ∙ before.files;
      stays = step_counts _ step ∙ before.stays;
    })

pub returns-clause-step : goal.returns-clause-step
returns-clause-step g c =
    let last = c.loop-place.invariant in
    let all = take_all c.loop-place.place c.args.tables.now
    (omega (arith, c.loop-place-test.false)) in
    let first = rw c.as_slice-delays.ensures at c.index-delays-0.is in
    record {
      files = last.files;
      counts = λ none. last.stays;
      gives = record {
        only = c.in_ok-bare.bare;
        read = subst (λ tables. AreRead (g.I.Inputs.holds c.args.inputs.now)
            ((Bench, c.args.bench.now) ∷ corner_files 1 (map string_bytes tables))
            (bare c.in_ok-bare.bare c.loop-place.techs)) all last.read;
        tells = corners_circuit c.in_ok-bare.bare c.in_ok-circuit.circuit c.loop-place.techs
            c.index-delays-0.result
            (omega (arith, c.requires.some, last.count, c.loop-place-test.false)) first
            c.in_ok-circuit.ensures;
      };
      fails = tt;
    }

pub returns-clause-acyclic : goal.returns-clause-acyclic
unfolding returns-clause-step
returns-clause-acyclic g c =
    corners_acyclic c.in_ok-bare.bare c.in_ok-circuit.circuit c.loop-place.techs
    c.in_ok-bare.ensures.keeps.acyclic (returns-clause-step g c).gives.tells
