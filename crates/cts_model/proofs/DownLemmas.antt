-- Ways down a tree, and the reaches of its nodes by them.
use Rattle.cts_model.proofs.Vocabulary.{◌≡◌, ℕ, ◌<◌, ◌+◌, ℤ, ◌+ℤ◌, List, [], ◌∷◌, length, Some, inl, inr, refl, ap, subst, ◌∙◌, arith, IfSome, ints, slice_get_cases, Sink, Merge, AreReaches, IsTopology}
use Rattle.std.specs.Prelude.{slice_get}
use Rattle.cts_model.specs.tree.WaysDown.{IsReachDown, LeadsDown, wire_along}
use Rattle.cts_model.proofs.ParentLemmas.{made_parent, parent_above, parent_stands}
use Rattle.cts_model.proofs.TopologyLemmas.{of_made}

-- a way down from a node to one of the sinks
record DownToSink (sinks : List Sink) (merges : List Merge) (node : ℕ) : Type 0 where
  way : List ℕ
  register : ℕ
  sink : Sink
  leads : LeadsDown (length sinks) merges node way register
  here : slice_get sinks register ≡ Some sink

module _ (sinks : List Sink) (merges : List Merge) (lengths reach : ℕ → ℤ) where
  -- where edges are as long as their ends' reaches differ, so are ways
  along : AreReaches (length sinks) merges lengths reach → (node : ℕ) (way : List ℕ) (to : ℕ)
      → LeadsDown (length sinks) merges node way to
      → reach node ≡ wire_along lengths way +ℤ reach to
  along reaches node [] to same = let level = ap reach same in omega (arith, ints)
  along reaches node (below ∷ way) to (is, leads) =
      let long = reaches below node is in
      let rest = along reaches below way to leads in
      omega (arith, ints)

  -- so each reach is that of its node, where a sink's is its offset
  pub reaches_are_down : AreReaches (length sinks) merges lengths reach
      → ((register : ℕ) → IfSome (slice_get sinks register) (λ sink. reach register ≡ sink.offset))
      → (node : ℕ) → IsReachDown sinks merges lengths node (reach node)
  reaches_are_down reaches level node way register sink leads here =
      along reaches node way register leads
      ∙ ap (λ z. wire_along lengths way +ℤ z) (subst (λ found. IfSome found
      (λ sink. reach register ≡ sink.offset)) here (level register))

  module _ (topology : IsTopology (length sinks) merges) where
    -- some way leads down to a sink from each node that stands
    some_way : (node : ℕ) → node < length sinks + length merges → DownToSink sinks merges node
    some_way node made = of_made (length sinks) merges topology.each (DownToSink sinks merges)
        (λ register within. elim ((slice_get_cases sinks register).1) [
          | inl there ↦ record {
            way = [];
            register = register;
            sink = there.0;
            leads = refl;
            here = there.2;
          }
          | inr past ↦ absurd (omega (arith, past.0))
        ])
        (λ place merge here first second. record {
          way = merge.first ∷ first.way;
          register = first.register;
          sink = first.sink;
          leads = (
            made_parent (length sinks) merges place merge here merge.first (inl refl),
            first.leads,
          );
          here = first.here;
        })
        node made

    -- so where each reach is that of its node, edges are as long as those of their ends differ
    pub down_are_reaches : ((node : ℕ) → IsReachDown sinks merges lengths node (reach node))
        → AreReaches (length sinks) merges lengths reach
    down_are_reaches each node parent is =
        let above = parent_above topology node parent is in
        let stands = parent_stands topology node parent is in
        let down = some_way node (omega (arith, topology.all)) in
        let own = each node down.way down.register down.sink down.leads down.here in
        let whole = each parent (node ∷ down.way) down.register down.sink (is, down.leads)
        down.here in
        omega (arith, ints)
