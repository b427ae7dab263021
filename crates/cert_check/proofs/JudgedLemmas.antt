-- Judgements one after the other: what is left where all before hold, and that all hold where a
-- report is shown.
use Rattle.cert_check.proofs.Vocabulary.{◌≡◌, ◌⊎◌, ◌↔◌, ℕ, List, ap, subst, inl, inr, refl, IsErrAnd, Result, Ok, Err, Constraint, Sink, Uv, Problem, Report, AtEach, cycle_of, IsShown, IsShownTiming, IsShownTree, sinks_in, source_in, Reason, Stop, At, NoMemory, Shown, Not, Decides, Judged, JudgedOnce, Judges, JudgesOnce, JudgedTree, IsVerdict, IsVerdictBy}
use Rattle.cert_check.specs.declared.judge.Judge.{Judge}
use Rattle.cert_check.specs.declared.verdict.Verdict.{Verdict}
use Rattle.cert_check.proofs.FirstPlaces.{passed_on}

-- what is shown isn't refused
pub not_shown : {verdict : Verdict} {reason : Reason} → verdict ≡ Not reason → verdict ≡ Shown → ⊥
not_shown is shown = cc

module _ {places : ℕ} {Holds : ℕ → Type 0} {reason : ℕ → Reason} {verdict : Verdict}
    {Next : Type 0} where
  -- where it holds at each place, the next judgement decides
  judged_next : Judged places Holds reason verdict Next → AtEach places Holds → Next
  judged_next (inl (place, first, is)) all = absurd (first.fails (all place first.within))
  judged_next (inr (all, next)) also = next

  -- so it does with another verdict that has the same reason, if any
  pub judged_then : {other : Verdict} {More : Type 0}
      → ((why : Reason) → verdict ≡ Not why → other ≡ Not why)
      → Judged places Holds reason verdict Next → (Next → More)
      → Judged places Holds reason other More
  judged_then kept (inl (place, first, is)) next = inl (place, first, kept (reason place) is)
  judged_then kept (inr (all, more)) next = inr (all, next more)

  -- it does where the report is shown
  judged_holds : Judged places Holds reason verdict Next → verdict ≡ Shown
      → AtEach places Holds × Next
  judged_holds (inl (place, first, is)) shown = absurd (not_shown is shown)
  judged_holds (inr (all, next)) shown = (all, next)

module _ {Holds : Type 0} {reason : Reason} {verdict : Verdict} {Next : Type 0} where
  -- and so it is with what is judged once
  once_next : JudgedOnce Holds reason verdict Next → Holds → Next
  once_next (inl (fails, is)) holds = absurd (fails holds)
  once_next (inr (holds, next)) also = next

  pub once_then : {other : Verdict} {More : Type 0}
      → ((why : Reason) → verdict ≡ Not why → other ≡ Not why)
      → JudgedOnce Holds reason verdict Next → (Next → More) → JudgedOnce Holds reason other More
  once_then kept (inl (fails, is)) next = inl (fails, kept reason is)
  once_then kept (inr (holds, more)) next = inr (holds, next more)

  once_holds : JudgedOnce Holds reason verdict Next → verdict ≡ Shown → Holds × Next
  once_holds (inl (fails, is)) shown = absurd (not_shown is shown)
  once_holds (inr (holds, next)) shown = (holds, next)

-- what is shown has no reason that another verdict hasn't
pub kept_shown : (other : Verdict) (why : Reason) → Shown ≡ Not why → other ≡ Not why
kept_shown other why is = absurd (not_shown is refl)

-- what is judged after the tree
pub tree_then : (judge : Judge) {verdict other : Verdict} {Next More : Type 0}
    → ((why : Reason) → verdict ≡ Not why → other ≡ Not why)
    → JudgedTree judge verdict Next → (Next → More) → JudgedTree judge other More
tree_then judge kept judged next =
    judged_then kept judged (λ drawn. judged_then kept drawn (λ skewed. judged_then kept skewed
    (λ reached. judged_then kept reached (λ total. once_then kept total next))))

-- what stops several judgements stops them among others
pub stops_after : (Later Sooner : Verdict → Type 0) (result : Result (Unit {0}) Stop) (stop : Stop)
    → IsErrAnd result (λ passed. passed ≡ stop)
    → ((why : Reason) → Later (Not why) → Sooner (Not why))
    → Decides Later {T = Unit {0}} (Err stop) → Decides Sooner result
stops_after Later Sooner result stop is after decided =
    passed_on (Decides Sooner) result stop is (at stop after decided)
  where
    at : (stop : Stop) → ((why : Reason) → Later (Not why) → Sooner (Not why))
        → Decides Later {T = Unit {0}} (Err stop) → Decides Sooner {T = Unit {0}} (Err stop)
    at (At why) after decided = after why decided
    at NoMemory after decided = tt

-- the last judgement decides
pub last_places : {T : Type 0} (places : ℕ) (Holds : ℕ → Type 0) (reason : ℕ → Reason)
    (IsVerdict : Verdict → Type 0) (result : Result T Stop) → Judges places Holds reason result
    → ((verdict : Verdict) → Judged places Holds reason verdict (verdict ≡ Shown)
    → IsVerdict verdict) → Decides IsVerdict result
last_places places Holds reason IsVerdict (Ok done) all after = after Shown (inr (all, refl))
last_places places Holds reason IsVerdict (Err (At given)) (place, first, is) after =
    after (Not given) (inl (place, first, ap Not is))
last_places places Holds reason IsVerdict (Err NoMemory) none after = tt

pub last_once : {T : Type 0} (Holds : Type 0) (reason : Reason) (IsVerdict : Verdict → Type 0)
    (result : Result T Stop) → JudgesOnce Holds reason result
    → ((verdict : Verdict) → JudgedOnce Holds reason verdict (verdict ≡ Shown)
    → IsVerdict verdict) → Decides IsVerdict result
last_once Holds reason IsVerdict (Ok done) holds after = after Shown (inr (holds, refl))
last_once Holds reason IsVerdict (Err (At given)) (fails, is) after =
    after (Not given) (inl (fails, ap Not is))
last_once Holds reason IsVerdict (Err NoMemory) none after = tt

-- what stops a judgement decides
pub stops_once : (Holds : Type 0) (reason : Reason) (Next : Verdict → Type 0)
    (IsVerdict : Verdict → Type 0) (result : Result (Unit {0}) Stop) (stop : Stop)
    → IsErrAnd result (λ passed. passed ≡ stop) → JudgesOnce Holds reason {T = Unit {0}} (Err stop)
    → ((verdict : Verdict) → JudgedOnce Holds reason verdict (Next verdict) → IsVerdict verdict)
    → Decides IsVerdict result
stops_once Holds reason Next IsVerdict result (At given) is (fails, same) after =
    passed_on (Decides IsVerdict) result (At given) is
    (after (Not given) (inl (fails, ap Not same)))
stops_once Holds reason Next IsVerdict result NoMemory is none after =
    passed_on (Decides IsVerdict) result NoMemory is tt

pub stops_places : (places : ℕ) (Holds : ℕ → Type 0) (reason : ℕ → Reason)
    (Next : Verdict → Type 0) (IsVerdict : Verdict → Type 0) (result : Result (Unit {0}) Stop)
    (stop : Stop) → IsErrAnd result (λ passed. passed ≡ stop)
    → Judges places Holds reason {T = Unit {0}} (Err stop)
    → ((verdict : Verdict) → Judged places Holds reason verdict (Next verdict)
    → IsVerdict verdict) → Decides IsVerdict result
stops_places places Holds reason Next IsVerdict result (At given) is (place, first, same) after =
    passed_on (Decides IsVerdict) result (At given) is
    (after (Not given) (inl (place, first, ap Not same)))
stops_places places Holds reason Next IsVerdict result NoMemory is none after =
    passed_on (Decides IsVerdict) result NoMemory is tt

-- what holds passes to what is judged next
pub passed : {Fails Holds Next : Type 0} → Holds → Next → Fails ⊎ (Holds × Next)
passed holds next = inr (holds, next)

-- the cycle, the sinks and the source are those that the report has
pub told : (problem : Problem) (report : Report) {cycle : List Constraint} {sinks : List Sink}
    {source : Uv} (result : Result (Unit {0}) Stop) → cycle ≡ cycle_of report.shown
    → sinks ≡ sinks_in problem report → source ≡ source_in problem report
    → Decides (IsVerdictBy problem report cycle sinks source) result
    → Decides (IsVerdict problem report) result
told problem report result cycle_is sinks_are source_is =
    subst (λ (has : List Constraint × List Sink × Uv).
    Decides (IsVerdictBy problem report has.0 has.1 has.2) result)
    (λ i. (cycle_is i, sinks_are i, source_is i))

-- where each judgement holds, one verdict is that the report is shown
pub judged_shown : (problem : Problem) (report : Report) → IsShown problem report
    → IsVerdict problem report Shown
judged_shown problem report shown =
    let timing : IsShownTiming problem.circuit problem.tech report = shown.timing in
    let tree : IsShownTree (sinks_in problem report) (source_in problem report) report =
    shown.tree in
    passed timing.from_floor (passed timing.together (passed timing.of_circuit
    (passed timing.gives (passed timing.meets (passed tree.shape (passed tree.long_enough
    (passed tree.drawn (passed tree.skewed (passed tree.reaches (passed tree.total
    (passed timing.slacks (passed (λ place within second. (shown.least second).paths place within)
    (passed (λ register within second. (shown.least second).earliest register within)
    refl)))))))))))))

module _ (problem : Problem) (report : Report) {verdict : Verdict}
    (judged : IsVerdict problem report verdict) where
  -- and so is any other
  verdict_shown : IsShown problem report → verdict ≡ Shown
  verdict_shown shown =
      let timing : IsShownTiming problem.circuit problem.tech report = shown.timing in
      let tree : IsShownTree (sinks_in problem report) (source_in problem report) report =
      shown.tree in
      let together = once_next judged timing.from_floor in
      let given = judged_next together timing.together in
      let gives = judged_next given timing.of_circuit in
      let meets = once_next gives timing.gives in
      let shape = judged_next meets timing.meets in
      let long = judged_next shape tree.shape in
      let drawn = judged_next long tree.long_enough in
      let skewed = judged_next drawn tree.drawn in
      let reaches = judged_next skewed tree.skewed in
      let total = judged_next reaches tree.reaches in
      let slacks = once_next total tree.total in
      let paths = judged_next slacks timing.slacks in
      let earliest = judged_next paths
      (λ place within second. (shown.least second).paths place within) in
      judged_next earliest
      (λ register within second. (shown.least second).earliest register within)

  -- and the other way round
  pub shown_verdict : verdict ≡ Shown → IsShown problem report
  shown_verdict is =
      let (from_floor, together) = once_holds judged is in
      let (joined, given) = judged_holds together is in
      let (of_circuit, gives) = judged_holds given is in
      let (value, meets) = once_holds gives is in
      let (met, shape) = judged_holds meets is in
      let (shaped, long) = judged_holds shape is in
      let (long_enough, drawn) = judged_holds long is in
      let (wires, skewed) = judged_holds drawn is in
      let (skews, reaches) = judged_holds skewed is in
      let (shown_reaches, total) = judged_holds reaches is in
      let (sum, slacks) = once_holds total is in
      let (right, paths) = judged_holds slacks is in
      let (given_paths, earliest) = judged_holds paths is in
      let (led, _) = judged_holds earliest is in
      record {
        timing = record {
          from_floor = from_floor;
          together = joined;
          of_circuit = of_circuit;
          gives = value;
          meets = met;
          slacks = right;
        };
        tree = record {
          shape = shaped;
          long_enough = long_enough;
          drawn = wires;
          skewed = skews;
          reaches = shown_reaches;
          total = sum;
        };
        least = λ second. record {
          paths = λ place within. given_paths place within second;
          earliest = λ register within. led register within second;
        };
      }

  pub exactly_shown : (verdict ≡ Shown) ↔ IsShown problem report
  exactly_shown = (shown_verdict, verdict_shown)

  -- and what is the same as that
  pub exactly_said : {Said : Type 0} → IsShown problem report ↔ Said → (verdict ≡ Shown) ↔ Said
  exactly_said law = (
    λ is. law.0 (shown_verdict is),
    λ said. verdict_shown (law.1 said),
  )
