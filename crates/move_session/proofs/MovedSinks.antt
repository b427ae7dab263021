-- What a work holds after one of its sinks moves.
use Rattle.move_session.proofs.Vocabulary.{◌≡◌, ℕ, ◌+◌, ◌<◌, List, length, slice_set, sym, ap, subst, ◌∙◌, arith, Contains, length-set, All-set, Sink, Merge, AreTreeSinks, IsTreeSink, numbers_below, IsMerged, IsSinkSet, KeepsAllEnds, WorkState, IsFit, merges_set, set_held, set_kept, sinks_set, IsMergedBeside}
use Rattle.move_session.proofs.AgreeingSinks.{AgreeOn, holds_agreeing, keeps_agreeing}

-- sinks with one in another's place
pub tree_sinks_set : (sinks : List Sink) (register : ℕ) (sink : Sink) → AreTreeSinks sinks
    → IsTreeSink sink → AreTreeSinks (slice_set sinks register sink)
tree_sinks_set sinks register sink are is = record {
  some = omega (arith, are.some, length-set sinks register sink);
  few = omega (arith, are.few, length-set sinks register sink);
  each = All-set IsTreeSink sinks register sink is are.each;
}

-- once the sink is set, only the merges above it aren't held
pub moved_beside : (sinks : List Sink) (merges : List Merge) (register : ℕ) (sink : Sink)
    (work new : WorkState) → register < length sinks → IsFit work → IsMerged sinks merges work
    → KeepsAllEnds sinks merges work → IsSinkSet register sink work new
    → IsMergedBeside (slice_set sinks register sink) merges register new
moved_beside sinks merges register sink work new within fit merged kept is = record {
  count = ap (λ work. work.sinks) is.rest ∙ merged.count ∙ sym all;
  of_sinks = λ other one there. sinks_set is moved (set_held sinks register sink within) fit
      (omega (arith, within, merged.count)) other one there (λ apart. merged.of_sinks other one
      (sym (set_kept sinks register other sink apart) ∙ there));
  of_merges = λ place made beside. (
    holds_agreeing sinks moved merges new place (sym all) (agree place beside)
        (merges_set is sinks merges place within (merged.of_merges place made)),
    keeps_agreeing sinks moved merges new place (sym all) (agree place beside)
        (rw (ap (λ work. work.ends) is.rest) (kept place made)),
  );
}
  where
    moved : List Sink
    moved = slice_set sinks register sink

    all : length moved ≡ length sinks
    all = length-set sinks register sink

    agree : (place : ℕ)
        → (Contains (numbers_below (length moved) merges (length moved + place)) register → ⊥)
        → AgreeOn (numbers_below (length moved) merges (length moved + place)) sinks moved
    agree place beside other below = sym (set_kept sinks register other sink (λ same. beside (subst
        (Contains (numbers_below (length moved) merges (length moved + place))) same below)))
