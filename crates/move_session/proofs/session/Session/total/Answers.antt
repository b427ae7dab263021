use Rattle.move_session.proofs.Vocabulary.{◌≡◌, pos, length, slice_index_or, sym, ap, subst, ◌∙◌, arith, IsLeastWire, embedding_of, total_length, total_wire, source_of, Tree}
use Rattle.std.proofs.lemmas.Int.{ints, to_z-of_z}
use Rattle.std.specs.Int.{w128}
use Rattle.move_session.proofs.PlacedShows.{placed_least, placed_realises}
use Rattle.move_session.proofs.session.Session.total.Goals as goal

-- the lengths are those of the work's tree
value : (c : goal.After-total_length) → c.total_length.result
    ≡ total_wire (length c.self.inside.sinks) (embedding_of c.self.inside.work.tree)
value c =
    let work = c.self.inside.work in
    let count = c.self.invariant.merged.count in
    let lengths = c.as_slice.ensures
    ∙ ap (λ (tree : Tree). tree.length)
    (c.tree.ensures.whole (count ∙ sym c.self.invariant.room)) in
    c.total_length.ensures.value
    ∙ ap (λ list. total_length (λ node. slice_index_or list node (pos 0)) (length list)) lengths
    ∙ ap (total_length (λ node. slice_index_or work.tree.length node (pos 0)))
    (c.self.invariant.fit.lengths ∙ ap source_of count)

pub returns-clause-value : goal.returns-clause-value
returns-clause-value c =
    to_z-of_z w128 c.total_length.result (omega (arith, ints, c.total_length.ensures.below))
    ∙ value c
    ∙ ap (λ session. total_wire (length session.sinks) (embedding_of session.tree)) c.self.view_is

pub returns-clause-realises : goal.returns-clause-realises
returns-clause-realises c = rw (← c.self.view_is) (placed_realises c.self.invariant.placed)

pub returns-clause-least : goal.returns-clause-least
returns-clause-least c =
    let now = c.args.self.now in
    subst (IsLeastWire now.sinks now.merges now.source) (sym (returns-clause-value c))
    (rw (← c.self.view_is)
    (placed_least c.self.invariant.placed c.self.invariant.topology))
