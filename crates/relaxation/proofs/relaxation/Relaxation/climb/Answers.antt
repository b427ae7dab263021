-- A step more where there is a parent, and none where there isn't.
use Rattle.relaxation.proofs.Vocabulary.{◌≡◌, ◌<◌, Some, None, MatchOption, length, refl, sym, subst, ◌∙◌, arith, ℕ, Option, slice_get_read, slice_get_past, Constraint, IsSmallConstraint, ReachesUp, parent_of}
use Rattle.relaxation.proofs.ClimbLemmas.{parent_read, IsClimbing-more, no_climb}
use Rattle.relaxation.proofs.relaxation.Relaxation.climb.Goals as goal

pub returns-in_err-register-clause-reaches : goal.returns-in_err-register-clause-reaches
returns-in_err-register-clause-reaches c =
    let constraints = c.args.self.now.constraints.now in
    let relaxation = c.args.self.now in
    let parents = relaxation.parents.items in
    let within : c.loop-step.register < length parents =
    omega (arith, c.loop-step.invariant.0, c.requires.parents) in
    let inside : c.loop-step._step < length parents = omega (arith, relaxation.parents.ok.0) in
    let none : parent_of constraints parents c.loop-step.register ≡ None = parent_read
    constraints parents c.loop-step.register c.index-parent.result.now within c.index-parent.ensures
    ∙ slice_get_past constraints c.index-parent.result.now c.in_err-register.ensures.lookup.3 in
    subst (λ (o : Option ℕ). MatchOption o ((to : ℕ) → ReachesUp constraints parents c.args.from
    to → ⊥) (ReachesUp constraints parents c.args.from)) (sym c.from_residual.ensures)
    (λ to reaches. no_climb c.loop-step.invariant.1 inside none to reaches.0 reaches.1 reaches.2)

pub loop-step-preserved : goal.loop-step-preserved
loop-step-preserved c =
    let constraints = c.args.self.now.constraints.now in
    let relaxation = c.args.self.now in
    let parents = relaxation.parents.items in
    let parent : Constraint = c.in_ok-register.field-0.now in
    let found = c.in_ok-register.ensures.lookup.3 in
    let within : c.loop-step.register < length parents =
    omega (arith, c.loop-step.invariant.0, c.requires.parents) in
    let inside : c.loop-step._step < length parents = omega (arith, relaxation.parents.ok.0) in
    let here : parent_of constraints parents c.loop-step.register ≡ Some parent =
    parent_read constraints parents c.loop-step.register c.index-parent.result.now within
    c.index-parent.ensures ∙ slice_get_read constraints (length constraints)
    c.index-parent.result.now parent refl found.0 (found.1 parent) in
    let small : IsSmallConstraint (length relaxation.values.items) parent =
    subst (IsSmallConstraint (length relaxation.values.items)) (sym (found.1 parent))
    (c.args.self.now.small.each c.index-parent.result.now parent found.0) in
    (small.tail, IsClimbing-more c.loop-step.invariant.1 parent inside here)
