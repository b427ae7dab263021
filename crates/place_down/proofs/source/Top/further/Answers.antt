use Rattle.place_down.proofs.Vocabulary.{[], ◌∷◌, ◌++◌, sym, subst, arith, ints, to_z-of_z, w128, rotated, IsTop}
use Rattle.cts_model.specs.declared.tree.Show.TheVariants as shows
use Rattle.place_down.proofs.SourceLemmas.{top_kept, top_further}
use Rattle.place_down.proofs.source.Top.further.Goals as goal

pub returns-then-reach-self : goal.returns-then-reach-self
returns-then-reach-self c = λ sinks first root here held. top_kept c.args.sink held
    (omega (arith, ints, c.reach_to-reach.ensures.value, c.if-reach-self.true))

pub returns : goal.returns
returns c = λ sinks first root here held.
    let reach = c.reach_to-reach.result in
    let is = to_z-of_z w128 reach (omega (arith, ints, c.reach_to-reach.ensures.below)) in
    subst (λ z. IsTop sinks (first ++ c.args.sink ∷ []) (rotated c.args.source) root
    (record { reach = z; show = shows.Sink c.args.register })) (sym is)
    (top_further c.args.sink held c.args.register reach here c.reach_to-reach.ensures.value
    (omega (arith, ints, c.if-reach-self.false)) c.reach_to-reach.ensures.below
    c.reach_to-reach.ensures.multiple)
