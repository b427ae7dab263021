-- Marks of the nodes that merges join, one merge after the other.
use Rattle.cert_check.proofs.Vocabulary.{◌≡◌, ◌<◌, ◌+◌, ◌*◌, ℕ, Bool, true, List, [], length, set, take, Option, None, Some, refl, sym, subst, arith, IfSome, length-set, length-take-le, take_more, slice_get, Merge, AtEach, IsMerge, merge_at, merge_here, IsOfUnmarked, JoinsAt}
use Rattle.cts_model.specs.Vocabulary.{AreMarked}
use Rattle.cts_model.proofs.MarkLemmas as mark_lemmas
use Rattle.cert_check.proofs.FirstPlaces.{each_more}

-- there is a mark for each node, those are marked that merges before a place join, and each of
-- these merges joins two nodes that are there and weren't marked
pub record AreMarkedBefore (sinks : ℕ) (merges : List Merge) (place : ℕ) (marks : List Bool)
    : Type 0 where
  pub all : length marks ≡ 2 * sinks
  pub marked : AreMarked (take place merges) marks
  pub joined : AtEach place (JoinsAt sinks merges)

-- what holds of a value wherever it is there
pub if_some : {X : Type 0} (found : Option X) (Holds : X → Type 0)
    → ((value : X) → found ≡ Some value → Holds value) → IfSome found Holds
if_some None Holds all = tt
if_some (Some value) Holds all = all value refl

-- and the other way round
pub some_if : {X : Type 0} (found : Option X) (Holds : X → Type 0) (value : X)
    → IfSome found Holds → found ≡ Some value → Holds value
some_if found Holds value all is = subst (λ other. IfSome other Holds) is all

module _ (sinks : ℕ) (merges : List Merge) (place : ℕ) (marks : List Bool)
    (within : place < length merges) (before : AreMarkedBefore sinks merges place marks)
    (few : length merges + 1 ≡ sinks) where
  abbrev merge : Merge
  merge = merge_at merges place

  abbrev earlier : List Merge
  earlier = take place merges

  prefix : length earlier ≡ place
  prefix = length-take-le place merges (omega (arith, within))

  -- a merge that may join two nodes is of two that aren't marked
  pub of_unmarked : JoinsAt sinks merges place → IsOfUnmarked (sinks + place) marks merge
  of_unmarked may =
      let joins = some_if (slice_get merges place) (IsMerge sinks earlier) merge may
      (merge_here merges place within) in
      record {
        ordered = joins.ordered;
        made_before = omega (arith, joins.second.made, prefix);
        first = (before.marked merge.first
            (omega (arith, joins.first.made, prefix, within, before.all, few))).1
            joins.first.unjoined;
        second = (before.marked merge.second
            (omega (arith, joins.second.made, prefix, within, before.all, few))).1
            joins.second.unjoined;
      }

  module _ (unmarked : IsOfUnmarked (sinks + place) marks merge) where
    low : merge.second < length marks
    low = omega (arith, unmarked.made_before, within, before.all, few)

    -- and the other way round
    joins : IsMerge sinks earlier merge
    joins = record {
      ordered = unmarked.ordered;
      first = record {
        made = omega (arith, unmarked.ordered, unmarked.made_before, prefix);
        unjoined = (before.marked merge.first (omega (arith, unmarked.ordered, low))).0
            unmarked.first;
      };
      second = record {
        made = omega (arith, unmarked.made_before, prefix);
        unjoined = (before.marked merge.second low).0 unmarked.second;
      };
    }

    abbrev middle : List Bool
    middle = set marks merge.first true

    abbrev after : List Bool
    after = set middle merge.second true

    -- so the marks are those of one merge more
    pub marks_more : AreMarkedBefore sinks merges (place + 1) after
    marks_more = record {
      all = omega (
        arith,
        before.all,
        length-set marks merge.first true,
        length-set middle merge.second true,
      );
      marked = subst (λ prefix. AreMarked prefix after)
          (sym (take_more merges place (merge_at [] 0) within))
          (mark_lemmas.marks_more earlier marks before.marked merge);
      joined = each_more (JoinsAt sinks merges) place before.joined
          (subst (λ found. IfSome found (IsMerge sinks earlier))
          (sym (merge_here merges place within)) joins);
    }
