-- The first of some places where something doesn't hold.
use Rattle.cert_check.proofs.Vocabulary.{◌≡◌, ◌<◌, ◌↔◌, ◌+◌, ℕ, Bool, false, IsTrue, sym, ◌∙◌, subst, arith, List, ◌∷◌, All, length, get_or, drop, add-one, drop-cons, Some, cases_lt, false≢true, get_or_from_slice_get, slice_get_within, IsErrAnd, Result, Ok, Err, slice_get, AtEach, Reason, Stop, At, NoMemory, FailsFirst, Judges}

-- what a test denies doesn't hold
pub denied : (Holds : Type 0) (test : Bool) → IsTrue test ↔ Holds → test ≡ false → Holds → ⊥
denied Holds test tests none holds = false≢true (sym none ∙ tests.1 holds)

-- the first place where a test denies it
pub fails_here : (places : ℕ) (Holds : ℕ → Type 0) (place : ℕ) (test : Bool) → place < places
    → AtEach place Holds → IsTrue test ↔ Holds place → test ≡ false → FailsFirst places Holds place
fails_here places Holds place test within before tests none =
    record { within = within; fails = denied (Holds place) test tests none; before = before }

-- one place more
pub each_more : (Holds : ℕ → Type 0) (place : ℕ) → AtEach place Holds → Holds place
    → AtEach (place + 1) Holds
each_more Holds place each here other within = search (arith, cases_lt)

-- what stops a judgement at some places stops one at others that fails first with it
pub stops_by : {places others : ℕ} {Holds Also : ℕ → Type 0}
    {reason reason' : ℕ → Reason} (stop : Stop)
    → ((place : ℕ) → FailsFirst places Holds place
    → (other : ℕ) × FailsFirst others Also other × (reason place ≡ reason' other))
    → Judges places Holds reason {T = Unit {0}} (Err stop)
    → Judges others Also reason' {T = Unit {0}} (Err stop)
stops_by (At given) fails (place, first, is) =
    let (other, also, same) = fails place first in (other, also, is ∙ same)
stops_by NoMemory fails none = tt

-- what is passed on is what stopped
pub passed_on : (P : Result (Unit {0}) Stop → Type 0) (result : Result (Unit {0}) Stop)
    (stop : Stop) → IsErrAnd result (λ passed. passed ≡ stop) → P (Err stop) → P result
passed_on P (Ok done) stop is p = absurd is
passed_on P (Err passed) stop is p = subst (λ given. P (Err given)) (sym is) p

-- what all have, the one at a place has
pub at_place : {X : Type 0} (Holds : X → Type 0) (items : List X) (place : ℕ) (item : X)
    → All Holds items → slice_get items place ≡ Some item → Holds item
at_place Holds items place item all here = search (arith, get_or_from_slice_get, slice_get_within)

-- what stands from a place on is the item there and the rest
pub rest_is : {X : Type 0} (items : List X) (place : ℕ) (d : X) → place < length items
    → drop place items ≡ get_or items place d ∷ drop (place + 1) items
rest_is items place d within = rw add-one (drop-cons items place d within)
