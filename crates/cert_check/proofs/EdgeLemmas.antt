-- The edges of a tree by the list of their nodes' parents.
use Rattle.cert_check.proofs.Vocabulary.{◌≡◌, ◌↔◌, ◌<◌, ◌≤ℤ◌, ℕ, List, Option, Some, length, take, subst, sym, ◌∙◌, arith, slice_get, Merge, Wire, IsDrawn, Embedding, IsDrawnEdge, IsLongEnough, distance, IsParent, IsTopology, has_parent, one_parent, AreParents, parent_at}

-- what is found at a place is one
some_same : {X : Type 0} {found : Option X} {one other : X} → found ≡ Some one
    → found ≡ Some other → one ≡ other
some_same first second = cc (sym first ∙ second)

-- the listed parent of a node is one
pub listed : {sinks : ℕ} {merges : List Merge} (parents : List ℕ)
    (are : AreParents sinks merges parents) (edge : ℕ) → edge < length parents
    → IsParent sinks merges edge (parent_at parents edge)
listed {sinks} {merges} parents are edge within =
    let (parent, is) = has_parent are.topology edge (omega (arith, are.all)) in
    subst (IsParent sinks merges edge) (sym (are.each edge parent is)) is

module _ {sinks : ℕ} {merges : List Merge} (topology : IsTopology sinks merges)
    (edge parent : ℕ) (is : IsParent sinks merges edge parent) where
  -- an edge is long enough exactly where it is from the one parent
  pub reaches_same : (tree : Embedding)
      → (distance (tree.place parent) (tree.place edge) ≤ℤ tree.length edge)
      ↔ IsLongEnough sinks merges tree edge
  reaches_same tree = (
    λ reaches other also. subst
        (λ up. distance (tree.place up) (tree.place edge) ≤ℤ tree.length edge)
        (one_parent topology edge parent other is also) reaches,
    λ long. long parent is,
  )

  -- and its wire is drawn exactly where it is from there
  pub drawn_same : (tree : Embedding) (wires : List Wire) (wire : Wire)
      → slice_get wires edge ≡ Some wire
      → IsDrawn (tree.place parent) (tree.place edge) (tree.length edge)
      (take wire.used wire.corners) ↔ IsDrawnEdge sinks merges tree wires edge
  drawn_same tree wires wire here = (
    λ drawn up other also there.
        let one : wire ≡ other = some_same here there in
        subst (λ up. IsDrawn (tree.place up) (tree.place edge) (tree.length edge)
        (take other.used other.corners)) (one_parent topology edge parent up is also)
        (subst (λ wire. IsDrawn (tree.place parent) (tree.place edge)
        (tree.length edge) (take wire.used wire.corners)) one drawn),
    λ drawn. drawn parent wire is here,
  )
