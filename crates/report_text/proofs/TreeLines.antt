-- A line of the tree without a flaw is that of a value, and the line of a value within the bounds
-- has no flaw.
use Rattle.report_text.proofs.Vocabulary.{fields_of, ◌≡◌, ◌<◌, ◌≤◌, ◌+◌, ◌*◌, ◌-◌, ◌^◌, ◌++◌, nat_le, suc, zero, replicate, take, All, Bool, if◌then◌else◌, ℕ, ℤ, pos, List, [], ◌∷◌, get_or, length, None, true, false, refl, sym, ap, ◌∙◌, subst, codes, arith, le-leb, leb-true, Decides-eqb, drop_at, length-append, length-replicate, length-take, take_at, All-cons, All-nil, All-replicate, signed_decimal, AllByRecursion, flat_map, quotient_text, Circuit, Point, Show, Pair, Sink, Root, register_name, IsBelow, IsPointBelow, Words, IsMergeShow, IsSourceShow, ShowsAmong, origin, Field, Scale, MergeLine, NodeLine, SourceLine, LineHasFlaw, has_points, is_word, length_field, node_fields, points_of, IsFlawless, IsSmallScale, SaysMerge, SaysNode, SaysSource, coordinates, merged_line, sourced_line, wire_line}
use Rattle.report_text.specs.LineFields as field
use Rattle.report_text.specs.LineForms as form
use Rattle.report_text.proofs.WordBytes.{both}
use Rattle.report_text.proofs.NameNumbers.{named_register}
use Rattle.report_text.proofs.SpelledFields.{IsSmallField, Tells, line_plain, line_spelled, values_plain}

-- a length is small
pub small_length : (scale : Scale) → IsSmallScale scale → IsSmallField (length_field scale)
small_length scale small = (small.some_grid, small.small_grid, omega arith)

-- ---- the whole wire

pub total_found : (circuit : Circuit) (scale : Scale) (words : Words) → IsSmallScale scale
    → IsFlawless circuit scale form.Total words → (total : ℤ)
    × ((words ≡ wire_line scale.grid total) × IsBelow (10 ^ 36) total)
total_found circuit scale words small flawless =
    let line = line_spelled circuit (fields_of circuit scale form.Total words) words
    (tt, ((small.some_grid, small.small_grid, omega arith), tt)) flawless in
    (line.values.1.0, (line.are, line.admitted.1.0))

pub total_plain : (circuit : Circuit) (scale : Scale) (total : ℤ) → IsSmallScale scale
    → IsBelow (10 ^ 36) total
    → IsFlawless circuit scale form.Total (codes "wire" ∷ quotient_text total scale.grid ∷ [])
total_plain circuit scale total small below =
    values_plain circuit (fields_of circuit scale form.Total []) (tt, (total, tt))
    (tt, ((small.some_grid, small.small_grid, omega arith), tt)) (tt, (below, tt))

-- ---- a merge

small_merge : (circuit : Circuit) (scale : Scale) (node : ℕ) (words : Words) → IsSmallScale scale
    → node < 2 ^ 32 → AllByRecursion IsSmallField (fields_of circuit scale (form.Merge node) words)
small_merge circuit scale node words small below = search (arith, small_length)

pub merge_found : (circuit : Circuit) (scale : Scale) (node : ℕ) (words : Words)
    → IsSmallScale scale → node < 2 ^ 32 → IsFlawless circuit scale (form.Merge node) words
    → (line : MergeLine) × SaysMerge circuit scale.grid node words line
merge_found circuit scale node words small below flawless =
    let line = line_spelled circuit (fields_of circuit scale (form.Merge node) words) words
    (small_merge circuit scale node words small below) flawless in
    let (_, (first, (second, (reach, (_, (left, (right, _))))))) = line.values in
    let (_, (few, (few', (reach_below, (_, (within, ((from, within'), _))))))) = line.admitted in
    let named = named_register circuit (get_or words 5 []) left within
    (sym (ap (λ (ws : Words). get_or ws 5 []) line.are)) in (
      record {
        merge = record { first = first; second = second };
        reach = reach;
        show = Pair left right;
      },
      record {
        words_are = line.are;
        merge = record { first = few.1; second = few'.1 };
        reach = reach_below;
        show = omega (arith, named, from);
        among = (within, within');
      },
    )

pub merge_plain : (circuit : Circuit) (scale : Scale) (node : ℕ) (words : Words) (line : MergeLine)
    → IsSmallScale scale → node < 2 ^ 32 → SaysMerge circuit scale.grid node words line
    → IsFlawless circuit scale (form.Merge node) words
merge_plain circuit scale node words line small below says =
    subst (IsFlawless circuit scale (form.Merge node)) (sym says.words_are)
    (at line.show says.show says.among)
  where
    at : (show : Show) → IsMergeShow show → ShowsAmong (length circuit.registers) show
        → IsFlawless circuit scale (form.Merge node) (merged_line circuit scale.grid node
        (record { merge = line.merge; reach = line.reach; show = show }))
    at (Pair left right) order (within, within') =
        let words : Words = merged_line circuit scale.grid node
        (record { merge = line.merge; reach = line.reach; show = Pair left right }) in
        let named = named_register circuit (register_name circuit left) left within refl in
        values_plain circuit (fields_of circuit scale (form.Merge node) words)
        (tt, (line.merge.first, (line.merge.second, (line.reach, (tt, (left, (right, tt)))))))
        (small_merge circuit scale node words small below)
        (search (arith, says.merge.first, says.merge.second, says.reach, named, order))
    at (Sink register) none among = absurd none
    at Root none among = absurd none

-- ---- the source

-- its fields, by whether the root shows it
abbrev pub shown_fields : Scale → (root : Bool) → List Field
shown_fields scale root = field.Word (codes "source") ∷ length_field scale
    ∷ (if root then field.Word (codes "root") ∷ [] else field.Word (codes "sink") ∷ field.Register ∷
    [])

pub source_found : (circuit : Circuit) (scale : Scale) (words : Words) → IsSmallScale scale
    → IsFlawless circuit scale form.Source words
    → (line : SourceLine) × SaysSource circuit scale.grid words line
source_found circuit scale words small flawless = at (is_word words 2 (codes "root")) flawless
  where
    at : (root : Bool) → LineHasFlaw circuit (shown_fields scale root) words None
        → (line : SourceLine) × SaysSource circuit scale.grid words line
    at true flawless =
        let line = line_spelled circuit (shown_fields scale true) words
        (tt, (small_length scale small, (tt, tt))) flawless in (
          record { reach = line.values.1.0; show = Root },
          record { words_are = line.are; reach = line.admitted.1.0; show = tt; among = tt },
        )
    at false flawless =
        let line = line_spelled circuit (shown_fields scale false) words
        (tt, (small_length scale small, (tt, (tt, tt)))) flawless in
        let (_, (reach, (_, (register, _)))) = line.values in
        let (_, (below, (_, (within, _)))) = line.admitted in (
          record { reach = reach; show = Sink register },
          record { words_are = line.are; reach = below; show = tt; among = within },
        )

pub source_plain : (circuit : Circuit) (scale : Scale) (words : Words) (line : SourceLine)
    → IsSmallScale scale → SaysSource circuit scale.grid words line
    → IsFlawless circuit scale form.Source words
source_plain circuit scale words line small says =
    subst (IsFlawless circuit scale form.Source) (sym says.words_are)
    (at line.show says.show says.among)
  where
    at : (show : Show) → IsSourceShow show → ShowsAmong (length circuit.registers) show
        → IsFlawless circuit scale form.Source (sourced_line circuit scale.grid
        (record { reach = line.reach; show = show }))
    at (Pair left right) none among = absurd none
    at (Sink register) is within =
        values_plain circuit (shown_fields scale false) (tt, (line.reach, (tt, (register, tt))))
        (tt, (small_length scale small, (tt, (tt, tt)))) (tt, (says.reach, (tt, (within, tt))))
    at Root is among = values_plain circuit (shown_fields scale true) (tt, (line.reach, (tt, tt)))
        (tt, (small_length scale small, (tt, tt))) (tt, (says.reach, (tt, tt)))

-- ---- a node

-- two words for each point
length-points : (grid : ℤ) (points : List Point)
    → length (flat_map (coordinates grid) points) ≡ 2 * length points
length-points grid [] = refl
length-points grid (point ∷ points) = omega (arith, length-points grid points)

small_lengths : (scale : Scale) (count : ℕ) → IsSmallScale scale
    → AllByRecursion IsSmallField (replicate count (length_field scale))
small_lengths scale zero small = tt
small_lengths scale (suc count) small = (small_length scale small, small_lengths scale count small)

small_node : (scale : Scale) (node points : ℕ) → IsSmallScale scale → node < 2 ^ 32 → points ≤ 5
    → AllByRecursion IsSmallField (node_fields scale node points)
small_node scale node points small below few = search (arith, small_length, small_lengths)

-- words that are two lengths for each point are those of points
record ArePoints (grid : ℤ) (count : ℕ) (words : Words) : Type 0 where
  points : List Point
  many : length points ≡ count
  below : All (IsPointBelow (10 ^ 32)) points
  are : words ≡ flat_map (coordinates grid) points

points_found : (circuit : Circuit) (scale : Scale) (count : ℕ) (words : Words)
    → Tells circuit (replicate (2 * count) (length_field scale)) words
    → ArePoints scale.grid count words
points_found circuit scale zero words line = search (arith, All-nil)
points_found circuit scale (suc count) words line =
    let length = length_field scale in
    let even : 2 * suc count ≡ suc (suc (2 * count)) = omega arith in
    let next : Tells circuit (length ∷ length ∷ replicate (2 * count) length) words =
    subst (λ n. Tells circuit (replicate n length) words) even line in
    let more = points_found circuit scale count _
    (record { values = next.values.1.1; admitted = next.admitted.1.1; are = refl }) in
    let point : Point = record { x = next.values.0; y = next.values.1.0 } in
    record {
      points = point ∷ more.points;
      many = ap suc more.many;
      below = All-cons (IsPointBelow (10 ^ 32)) point more.points
          (record { x = next.admitted.0; y = next.admitted.1.0 }) more.below;
      are = next.are ∙ ap (λ ws. coordinates scale.grid point ++ ws) more.are;
    }

points_told : (circuit : Circuit) (scale : Scale) (points : List Point)
    → All (IsPointBelow (10 ^ 32)) points
    → Tells circuit (replicate (2 * length points) (length_field scale))
    (flat_map (coordinates scale.grid) points)
points_told circuit scale [] below = record { values = tt; admitted = tt; are = refl }
points_told circuit scale (point ∷ points) below =
    let even : suc (suc (2 * length points)) ≡ 2 * suc (length points) = omega arith in
    let here = below 0 point (omega arith) in
    let more = points_told circuit scale points
    (λ k default within. below (suc k) default (omega (arith, within))) in
    subst (λ n. Tells circuit (replicate n (length_field scale))
    (flat_map (coordinates scale.grid) (point ∷ points))) even (record {
      values = (point.x, (point.y, more.values));
      admitted = (here.x, (here.y, more.admitted));
      are = ap (λ ws. coordinates scale.grid point ++ ws) more.are;
    })

-- a node has so many words as 1 to 5 points ask
record PointsFit (words : Words) : Type 0 where
  all : length words ≡ 5 + 2 * points_of words
  some : 1 ≤ points_of words
  few : points_of words ≤ 5

points_fit : (words : Words) → has_points words ≡ true → PointsFit words
points_fit words is = search (arith, both, nat_le, Decides-eqb, leb-true)

pub node_found : (circuit : Circuit) (scale : Scale) (node : ℕ) (words : Words) → IsSmallScale scale
    → node < 2 ^ 32 → 0 < length words → IsFlawless circuit scale (form.Node node) words
    → (line : NodeLine) × SaysNode scale.grid node words line
node_found circuit scale node words small below some flawless =
    at (has_points words) refl flawless
  where
    none : (words : Words) → 0 < length words → LineHasFlaw circuit [] words None → ⊥
    none [] some line = omega (arith, some)
    none (word ∷ words) some line = line.0

    of_points : (points : ℕ) → 1 ≤ points → points ≤ 5
        → LineHasFlaw circuit (node_fields scale node points) words None
        → (line : NodeLine) × SaysNode scale.grid node words line
    of_points points some few flawless =
        let line = line_spelled circuit (node_fields scale node points) words
        (small_node scale node points small below few) flawless in
        let (_, (x, (y, (edge, (_, _))))) = line.values in
        let (_, (x_below, (y_below, (edge_below, (_, _))))) = line.admitted in
        let drawn = points_found circuit scale points _ (record {
          values = line.values.1.1.1.1.1;
          admitted = line.admitted.1.1.1.1.1;
          are = refl;
        }) in
        let rest : List Point = replicate (5 - points) origin in
        let first = take_at drawn.points rest points drawn.many in (
          record {
            place = record { x = x; y = y };
            length = edge;
            wire = record { corners = drawn.points ++ rest; used = points };
          },
          record {
            words_are = line.are ∙ ap (λ ws. signed_decimal (pos node) ∷ quotient_text x scale.grid
                ∷ quotient_text y scale.grid ∷ quotient_text edge scale.grid ∷ signed_decimal
                (pos points) ∷ ws) (drawn.are ∙ ap (flat_map (coordinates scale.grid)) (sym first));
            place = record { x = x_below; y = y_below };
            edge = edge_below;
            wire = record {
              some = some;
              few = few;
              padded = record {
                all = omega (
                  arith,
                  length-append drawn.points rest,
                  length-replicate (5 - points) origin,
                );
                rest = subst (All (λ (point : Point). point ≡ origin))
                    (sym (drop_at drawn.points rest points drawn.many))
                    (All-replicate (λ (point : Point). point ≡ origin) (5 - points) origin refl);
              };
              each = subst (All (IsPointBelow (10 ^ 32))) (sym first) drawn.below;
            };
          },
        )

    at : (has : Bool) → has_points words ≡ has
        → LineHasFlaw circuit (if has then node_fields scale node (points_of words) else []) words
        None → (line : NodeLine) × SaysNode scale.grid node words line
    at true is flawless =
        let fit = points_fit words is in of_points (points_of words) fit.some fit.few flawless
    at false is flawless = absurd (none words some flawless)

-- so many words are those of a node
pub points_are : (circuit : Circuit) (scale : Scale) (node : ℕ) (words : Words) (points : ℕ)
    → length words ≡ 5 + 2 * points → 1 ≤ points → points ≤ 5
    → fields_of circuit scale (form.Node node) words ≡ node_fields scale node points
points_are circuit scale node words points all some few = search (arith, Decides-eqb, le-leb)

-- and so many are those of none
pub no_points : (circuit : Circuit) (scale : Scale) (node : ℕ) (words : Words)
    → ((points : ℕ) → 1 ≤ points → points ≤ 5 → ¬ (length words ≡ 5 + 2 * points))
    → fields_of circuit scale (form.Node node) words ≡ []
no_points circuit scale node words none = at (has_points words) refl
  where
    at : (has : Bool) → has_points words ≡ has
        → (if has then node_fields scale node (points_of words) else []) ≡ []
    at true is =
        let fit = points_fit words is in
        absurd (none (points_of words) fit.some fit.few fit.all)
    at false is = refl

pub node_plain : (circuit : Circuit) (scale : Scale) (node : ℕ) (words : Words) (line : NodeLine)
    → IsSmallScale scale → node < 2 ^ 32 → SaysNode scale.grid node words line
    → IsFlawless circuit scale (form.Node node) words
node_plain circuit scale node words line small below says =
    let wire = says.wire in
    let points = line.wire.used in
    let corners : List Point = take points line.wire.corners in
    let many : length corners ≡ points =
    omega (arith, length-take points line.wire.corners, wire.padded.all, wire.few) in
    let all : length words ≡ 5 + 2 * points =
    ap length says.words_are ∙ omega (arith, many, length-points scale.grid corners) in
    let fields_are = points_are circuit scale node words points all wire.some wire.few in
    let drawn = subst (λ n. Tells circuit (replicate (2 * n) (length_field scale))
    (flat_map (coordinates scale.grid) corners)) many (points_told circuit scale _ wire.each) in
    subst (λ (fields : List Field). LineHasFlaw circuit fields words None) (sym fields_are)
    (line_plain circuit (node_fields scale node points) _
    (small_node scale node _ small below wire.few) (record {
      values = (tt, (line.place.x, (line.place.y, (line.length, (tt, drawn.values)))));
      admitted = (tt, (says.place.x, (says.place.y, (says.edge, (tt, drawn.admitted)))));
      are = says.words_are ∙ ap (λ ws. signed_decimal (pos node) ∷ coordinates scale.grid line.place
          ++ quotient_text line.length scale.grid ∷ signed_decimal (pos points) ∷ ws) drawn.are;
    }))
