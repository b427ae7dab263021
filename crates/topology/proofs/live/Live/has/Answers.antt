use Rattle.topology.proofs.Vocabulary.{◌≡◌, None, Some, rules, sym, ap, refl, ◌∙◌, w128, eqb-true, eq-eqb, to_z-of_z, Pair}
use mir.Val.{to_z, of_z}
use Rattle.topology.proofs.PairLemmas.{has_found}
use Rattle.topology.proofs.live.Live.has.Goals as goal

none_some : (pair : Pair) → None ≡ Some pair → ⊥
none_some pair is = absurd (cc)

pub returns-in-Some : goal.returns-in-Some
returns-in-Some c =
    let found = c.in-Some.found in
    let pair = c.args.pair.now in
    let law = has_found c.args.self.now pair found ((c.pair.ensures found).0 c.in-Some.is) in (
      λ same. law.0 (sym (to_z-of_z w128 found.cost (search rules))
          ∙ ap (to_z w128) (eqb-true (of_z w128 found.cost) (of_z w128 pair.cost) same)
          ∙ to_z-of_z w128 pair.cost (search rules)),
      λ is. eq-eqb (of_z w128 found.cost) (of_z w128 pair.cost) (ap (of_z w128) (law.1 is)),
    )

pub returns-in-None : goal.returns-in-None
returns-in-None c = (
  λ is. absurd (cc),
  λ is. absurd (none_some c.args.pair.now (sym c.in-None.is
      ∙ (c.pair.ensures c.args.pair.now).1 (is, refl, refl))),
)
