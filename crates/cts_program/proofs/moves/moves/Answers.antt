use Rattle.cts_program.proofs.Vocabulary.{◌≡◌, ◌^◌, length, to_z, of_z, sym, subst, arith, w128, All, ints, IsGrid, IsSessionOf, IsWiresText, IsNearMove}
use Rattle.cts_model.specs.table.Tables.{IsWithin}
use Rattle.cts_program.proofs.WireTexts.{as_many_sinks}
use Rattle.cts_program.proofs.moves.moves.Goals as goal

pub wires-requires-clause-grid : goal.wires-requires-clause-grid
wires-requires-clause-grid c =
    let made : IsSessionOf c.args.problem.now c.in-Found.session c.in-Found.grid =
    rw c.in-Found.is at c.in_ok-session.ensures.ok in
    let small : IsWithin 1 (10 ^ 17) c.in-Found.grid =
    rw c.in-Found.is at c.in_ok-session.ensures.small in
    let same : to_z w128 (of_z w128 c.in-Found.grid) ≡ c.in-Found.grid =
    omega (arith, ints, small) in
    subst IsGrid (sym same) (record {
      period = made.period;
      tech = c.args.problem.now.tech;
      is = made.grid_is;
      within = small;
    })

pub wires-requires-clause-moves : goal.wires-requires-clause-moves
wires-requires-clause-moves c =
    let made : IsSessionOf c.args.problem.now c.in-Found.session c.in-Found.grid =
    rw c.in-Found.is at c.in_ok-session.ensures.ok in
    let count = as_many_sinks c.args.problem.now c.in-Found.session c.in-Found.grid made in
    subst (λ moves. All (IsNearMove (length c.in-Found.session.sinks)) moves)
    (sym c.as_slice.ensures)
    (subst (λ n. All (IsNearMove n) c.args.moves.now) (sym count) c.requires)

pub never-requires : goal.never-requires
never-requires c =
    rw c.as_slice-in-Never.ensures
    (c.args.problem.now.tech, rw c.in-Never.is at c.in_ok-session.ensures.ok)

pub returns-in_ok-text-in-Found-clause-text : goal.returns-in_ok-text-in-Found-clause-text
returns-in_ok-text-in-Found-clause-text c =
    let problem = c.args.problem.now in
    let grid = c.in-Found.grid in
    let made : IsSessionOf problem c.in-Found.session grid =
    rw c.in-Found.is at c.in_ok-session.ensures.ok in
    let small : IsWithin 1 (10 ^ 17) grid = rw c.in-Found.is at c.in_ok-session.ensures.small in
    let same : to_z w128 (of_z w128 grid) ≡ grid = omega (arith, ints, small) in
    let text = c.in_ok-text-in-Found.text.items in
    rw (c.done.ensures.ending, c.done.ensures.text)
    (subst (λ moves. IsWiresText problem moves text) c.as_slice.ensures
    (c.in_ok-text-in-Found.ensures problem
    (subst (IsSessionOf problem c.in-Found.session) (sym same) made)))
