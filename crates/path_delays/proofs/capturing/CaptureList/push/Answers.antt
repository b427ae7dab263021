-- The single signal is reached, and the lanes are those in which the walk reached it; or the sums
-- of several come last.
use Rattle.path_delays.proofs.Vocabulary.{◌≡◌, ◌∷◌, [], ◌++◌, ℕ, None, IsTrue, true, length, get_or, ◌∙◌, ap, sym, subst, arith, get_or_default, get_or_push, get_or-replicate, length_push, true≢false, All-push, AreCapturedBy, has_number, sums_to}
use Rattle.path_delays.specs.Capturings.{IsCapture}
use Rattle.path_delays.specs.WalkParts.{AreMerged}
use Rattle.path_delays.proofs.CapturingLemmas.{single_list, still_capture}
use Rattle.path_delays.specs.declared.capturing.Found.TheVariants.{Merged}
use Rattle.path_delays.proofs.capturing.CaptureList.push.Goals as goal

-- the place of what stands there
same_place : (first second : ℕ) → Merged first ≡ Merged second → first ≡ second
same_place first second is = cc is

pub returns-in_ok-push-in-len1-clause-each : goal.returns-in_ok-push-in-len1-clause-each
returns-in_ok-push-in-len1-clause-each c circuit known exact lists =
    let captured = c.args.captured.now in
    let walk = c.args.walk.now in
    let alone = single_list captured c.in-len1.len_at_least c.in-len1.len_below in
    rw c.in_ok-push-in-len1.ensures.items (All-push
    (IsCapture circuit walk c.args.self.now.merged.items) c.args.self.now.list.items _ lists
    (record {
      within = known;
      single = λ signal is.
          let same : get_or captured 0 0 ≡ signal = cc is in (
            subst (AreCapturedBy circuit c.args.register)
                (alone ∙ ap (λ (n : ℕ). n ∷ []) same) exact,
            subst (λ n. IsTrue (has_number walk.reach.reached.words.items n)) same
                (rw c.reached.ensures at (sym c.contains.ensures ∙ c.if-contains.true)),
          );
      several = λ place is. absurd (cc is);
      missed = λ lane signal low missed captures.
          let (place, within, here) = (exact signal).1 captures in
          let first : place ≡ 0 = omega (arith, c.in-len1.len_below) in
          let same : get_or captured 0 0 ≡ signal =
          get_or_default captured 0 0 signal (omega (arith, c.in-len1.len_at_least))
          ∙ subst (λ n. get_or captured n signal ≡ signal) first here in
          subst (λ n. sums_to walk lane n ≡ None) same (c.lanes_to.ensures lane low missed);
    }))

pub returns-in_ok-push-in_default-2-clause-each : goal.returns-in_ok-push-in_default-2-clause-each
returns-in_ok-push-in_default-2-clause-each c circuit known exact lists =
    let walk = c.args.walk.now in
    let merged = c.args.self.now.merged.items in
    let more = c.merged_sums.result in
    rw (c.in_ok-push-in_default.ensures.items, c.in_ok-push-in_default-2.ensures.items) (All-push
    (IsCapture circuit walk (merged ++ more ∷ [])) c.args.self.now.list.items _
    (λ k d inside. still_capture circuit walk merged more (get_or c.args.self.now.list.items k d)
    (lists k d inside))
    (record {
      within = known;
      single = λ signal is. absurd (cc is);
      several = λ place is.
          let last : length merged ≡ place = omega (
            arith,
            same_place c.len-place.result place is,
            c.len-place.ensures,
            c.args.self.now.merged.ok.0,
          ) in record {
            within = omega (arith, last, length_push merged more);
            captured = c.args.captured.now;
            exact = exact;
            each = subst (AreMerged walk c.args.captured.now)
                (sym (get_or_push merged more (record { sums = [] }) place last))
                c.merged_sums.ensures;
          };
      missed = λ lane signal low missed captures.
          absurd (true≢false (sym (get_or-replicate 16 lane true _ low) ∙ missed));
    }))
