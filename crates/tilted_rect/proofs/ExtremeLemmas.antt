-- The greatest and the least number over a set of sinks, and the four extremes.
use Rattle.tilted_rect.proofs.Vocabulary.{◌≡◌, List, [], ◌∷◌, ◌++◌, ℤ, ◌≤ℤ◌, ◌<ℤ◌, inl, inr, refl, subst, ◌∙◌, arith, Contains, ints, clamps, by_lt_z, Contains-append_left, Contains-append_right, Contains-append_cases, int_max, int_min, Sink, IsUnion, IsGreatest, IsLeastOf, u_above, u_below, v_above, v_below, Extremes, IsExtremes, joined}

-- ---- sets of sinks

-- one list after the other has the sinks of both
pub append_is_union : (first second : List Sink) → IsUnion first second (first ++ second)
append_is_union first second =
    search (arith, Contains-append_left, Contains-append_right, Contains-append_cases)

-- a set of one sink
pub contains_itself : (sink : Sink) → Contains (sink ∷ []) sink
contains_itself sink = (0, omega arith, refl)

pub contains_one : (sink other : Sink) → Contains (sink ∷ []) other → sink ≡ other
contains_one sink other (k, below, is) = search arith

-- an empty set has no sink
pub contains_none : (sink : Sink) → Contains [] sink → ⊥
contains_none sink (k, below, is) = omega arith

-- ---- the greatest and the least

-- of one sink
pub greatest_one : (of : Sink → ℤ) (sink : Sink) → IsGreatest of (sink ∷ []) (of sink)
greatest_one of sink = record {
  most = λ other among.
      subst (λ s. of s ≤ℤ of sink) (contains_one sink other among) (omega (arith, ints));
  sink = sink;
  among = contains_itself sink;
  attained = refl;
}

pub least_one : (of : Sink → ℤ) (sink : Sink) → IsLeastOf of (sink ∷ []) (of sink)
least_one of sink = record {
  least = λ other among.
      subst (λ s. of sink ≤ℤ of s) (contains_one sink other among) (omega (arith, ints));
  sink = sink;
  among = contains_itself sink;
  attained = refl;
}

-- of a union
pub greatest_union : (of : Sink → ℤ) (first second both : List Sink) (a b : ℤ)
    → IsUnion first second both → IsGreatest of first a → IsGreatest of second b
    → IsGreatest of both (int_max a b)
greatest_union of first second both a b union one other =
    by_lt_z a b
    (λ below. record {
      most = most;
      sink = other.sink;
      among = union.second_in other.sink other.among;
      attained = other.attained ∙ right below;
    })
    (λ above. record {
      most = most;
      sink = one.sink;
      among = union.first_in one.sink one.among;
      attained = one.attained ∙ left above;
    })
  where
    right : a <ℤ b → b ≡ int_max a b
    right below = omega (arith, ints, clamps)

    left : b ≤ℤ a → a ≡ int_max a b
    left above = omega (arith, ints, clamps)

    most : (sink : Sink) → Contains both sink → of sink ≤ℤ int_max a b
    most sink among = elim (union.from_either sink among) [
      | inl held ↦ omega (arith, ints, clamps, one.most sink held)
      | inr held ↦ omega (arith, ints, clamps, other.most sink held)
    ]

pub least_union : (of : Sink → ℤ) (first second both : List Sink) (a b : ℤ)
    → IsUnion first second both → IsLeastOf of first a → IsLeastOf of second b
    → IsLeastOf of both (int_min a b)
least_union of first second both a b union one other =
    by_lt_z b a
    (λ below. record {
      least = least;
      sink = other.sink;
      among = union.second_in other.sink other.among;
      attained = other.attained ∙ right below;
    })
    (λ above. record {
      least = least;
      sink = one.sink;
      among = union.first_in one.sink one.among;
      attained = one.attained ∙ left above;
    })
  where
    right : b <ℤ a → b ≡ int_min a b
    right below = omega (arith, ints, clamps)

    left : a ≤ℤ b → a ≡ int_min a b
    left above = omega (arith, ints, clamps)

    least : (sink : Sink) → Contains both sink → int_min a b ≤ℤ of sink
    least sink among = elim (union.from_either sink among) [
      | inl held ↦ omega (arith, ints, clamps, one.least sink held)
      | inr held ↦ omega (arith, ints, clamps, other.least sink held)
    ]

-- ---- the four extremes

pub extremes_one : (sink : Sink)
    → IsExtremes (sink ∷ [])
    (record {
      greatest_u = u_above sink;
      least_u = u_below sink;
      greatest_v = v_above sink;
      least_v = v_below sink;
    })
extremes_one sink = record {
  greatest_u = greatest_one u_above sink;
  least_u = least_one u_below sink;
  greatest_v = greatest_one v_above sink;
  least_v = least_one v_below sink;
}

-- the extremes of a union are the greater and the smaller of those of its parts
pub extremes_union : (first second both : List Sink) (extremes others : Extremes)
    → IsUnion first second both → IsExtremes first extremes → IsExtremes second others
    → IsExtremes both (joined extremes others)
extremes_union first second both extremes others union one other =
    search (arith, greatest_union, least_union)

-- a set with at least one sink has extremes
pub has_extremes : (sink : Sink) (more : List Sink)
    → (extremes : Extremes) × IsExtremes (sink ∷ more) extremes
has_extremes sink [] = (
  record {
    greatest_u = u_above sink;
    least_u = u_below sink;
    greatest_v = v_above sink;
    least_v = v_below sink;
  },
  extremes_one sink,
)
has_extremes sink (next ∷ more) =
    let single : Extremes = record {
      greatest_u = u_above sink;
      least_u = u_below sink;
      greatest_v = v_above sink;
      least_v = v_below sink;
    } in
    let rest = has_extremes next more in (
      joined single rest.0,
      extremes_union (sink ∷ []) (next ∷ more) (sink ∷ next ∷ more) single rest.0
          (append_is_union (sink ∷ []) (next ∷ more)) (extremes_one sink) rest.1,
    )
