-- How far the source reaches, one sink after the other.
use Rattle.place_down.proofs.Vocabulary.{◌≡◌, ℕ, ◌*◌, ◌^◌, inl, inr, ℤ, pos, ◌+ℤ◌, ◌-ℤ◌, ◌≤ℤ◌, ◌<ℤ◌, List, [], ◌∷◌, ◌++◌, Some, slice_get, refl, sym, subst, true, false, cond, int_lt, arith, Contains, ints, clamps, int_max, Contains-append_cases, Contains-append_left, Contains-append_right, Sink, Uv, Show, IsBelow, IsMultipleOf, IsUvBelow, apart, rotated_distance, IsTreeSink, contains_itself, contains_one, IsTop, IsTreeSource, Top}
use Rattle.cts_model.specs.declared.tree.Show.TheVariants as shows

-- ---- a sink's distance with its offset

-- two points that stay below a bound are less than twice that apart
pub distance_below : (a b : Uv) → IsUvBelow (10 ^ 31) a → IsUvBelow (10 ^ 31) b
    → (pos 0 ≤ℤ rotated_distance a b) × (rotated_distance a b <ℤ pos (2 * 10 ^ 31))
distance_below a b first second = (omega (arith, ints, clamps), omega (arith, ints, clamps))

-- the greater of two multiples is one
greater_multiple : (a b : ℤ) → IsMultipleOf 8 a → IsMultipleOf 8 b → IsMultipleOf 8 (int_max a b)
greater_multiple a b first second = elim (int_lt b a) as (λ t. IsMultipleOf 8 (cond t a b)) [
  | true ↦ first
  | false ↦ second
]

-- and so is how far they are apart
apart_multiple : (a b : ℤ) → IsMultipleOf 8 a → IsMultipleOf 8 b → IsMultipleOf 8 (apart a b)
apart_multiple a b first second =
    greater_multiple (a -ℤ b) (b -ℤ a) (omega (arith, ints)) (omega (arith, ints))

-- so the source is less than that far from a sink, with its offset
pub far_below : (sink : Sink) (source : Uv) → IsTreeSink sink → IsTreeSource source
    → IsBelow (3 * 10 ^ 31) (sink.offset +ℤ rotated_distance source sink.at)
far_below sink source placed from =
    let way = distance_below source sink.at from.below placed.at_below in
    let offset = placed.offset_below in
    record { above = omega (arith, ints, way, offset); below = omega (arith, ints, way, offset) }

-- by a multiple of 8
pub far_multiple : (sink : Sink) (source : Uv) → IsTreeSink sink → IsTreeSource source
    → IsMultipleOf 8 (sink.offset +ℤ rotated_distance source sink.at)
far_multiple sink source placed from = omega (
  arith,
  ints,
  placed.offset_multiple,
  greater_multiple (apart source.u sink.at.u) (apart source.v sink.at.v)
      (apart_multiple source.u sink.at.u from.multiple.u placed.at_multiple.u)
      (apart_multiple source.v sink.at.v from.multiple.v placed.at_multiple.v),
)

-- ---- one sink more

-- a show by a sink isn't one by the root
abbrev IsByRoot : Show → Type 0
IsByRoot shows.Root = Unit {0}
IsByRoot (shows.Sink register) = ⊥
IsByRoot (shows.Pair first second) = ⊥

not_by_root : (register : ℕ) → shows.Sink register ≡ shows.Root → ⊥
not_by_root register same = subst IsByRoot (sym same) tt

-- before any sink is looked at the source reaches as far as the root
pub top_first : (sinks : List Sink) (source : Uv) (root : ℤ) → IsBelow (3 * 10 ^ 31) root
    → IsMultipleOf 4 root → IsTop sinks [] source root (record { reach = root; show = shows.Root })
top_first sinks source root below multiple = record {
  reach = record {
    above_root = omega (arith, ints);
    each = λ sink among. absurd (omega (arith, among.1));
    attained = inl refl;
  };
  shown = refl;
  root_shows = (λ same. refl, λ same. refl);
  below = below;
  multiple = multiple;
}

-- a sink's distance with its offset
abbrev far : (source : Uv) → Sink → ℤ
far source sink = sink.offset +ℤ rotated_distance source sink.at

module _ {sinks first : List Sink} {source : Uv} {root : ℤ} {top : Top} (sink : Sink)
    (held : IsTop sinks first source root top) where
  -- what reaches all the first sinks and the next one reaches all of them
  reaches_each : (reach : ℤ) → top.reach ≤ℤ reach → far source sink ≤ℤ reach → (other : Sink)
      → Contains (first ++ sink ∷ []) other
      → (other.offset +ℤ rotated_distance source other.at) ≤ℤ reach
  reaches_each reach more near other among =
      elim (Contains-append_cases first (sink ∷ []) other among) [
        | inl before ↦ omega (arith, ints, held.reach.each other before)
        | inr last ↦ subst (λ (one : Sink). (one.offset +ℤ rotated_distance source one.at) ≤ℤ reach)
            (contains_one sink other last) near
      ]

  -- a sink that is no further changes nothing
  pub top_kept : far source sink ≤ℤ top.reach → IsTop sinks (first ++ sink ∷ []) source root top
  top_kept near = record {
    reach = record {
      above_root = held.reach.above_root;
      each = reaches_each top.reach (omega (arith, ints)) near;
      attained = elim held.reach.attained [
        | inl same ↦ inl same
        | inr other ↦
            inr (other.0, Contains-append_left first (sink ∷ []) other.0 other.1, other.2)
      ];
    };
    shown = held.shown;
    root_shows = held.root_shows;
    below = held.below;
    multiple = held.multiple;
  }

  -- one that is further shows how far the source reaches
  pub top_further : (register : ℕ) (reach : ℤ) → slice_get sinks register ≡ Some sink
      → reach ≡ far source sink → top.reach <ℤ reach → IsBelow (3 * 10 ^ 31) reach
      → IsMultipleOf 8 reach → IsTop sinks (first ++ sink ∷ []) source root
      (record { reach = reach; show = shows.Sink register })
  top_further register reach here is more below multiple = record {
    reach = record {
      above_root = omega (arith, ints, held.reach.above_root);
      each = reaches_each reach (omega (arith, ints)) (omega (arith, ints));
      attained = inr (
        sink,
        Contains-append_right first (sink ∷ []) sink (contains_itself sink),
        is,
      );
    };
    shown = rw here is;
    root_shows = (
      λ same. absurd (not_by_root register same),
      λ same. absurd (omega (arith, ints, held.reach.above_root)),
    );
    below = below;
    multiple = omega (arith, ints);
  }
