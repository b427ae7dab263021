-- Sweeps by turns: each that changes something raises one more parent above the register that
-- changed last.
use Rattle.relaxation.proofs.Vocabulary.{◌≡◌, ◌<◌, ◌≤◌, ◌+◌, ◌*◌, ◌^◌, ℕ, ℤ, List, length, replicate, All, true, false, Option, Some, None, ◌⊎◌, inl, inr, sym, subst, refl, ◌∙◌, arith, ⊤, is_some, cases_lt, length-replicate, Constraint, IsBelow, AreSmallConstraints, Gains, Relaxation, AdmitsGains, SatisfiesGains, ReachesUp, parent_of, value_of, IsFarUp, AreRaisedBy, IsReady, IsSwept, IsSweep}
use Rattle.relaxation.proofs.Climbs.{none_far_up}
use Rattle.relaxation.proofs.PrepareLemmas.{no_parents}
use Rattle.relaxation.proofs.RiseLemmas.{AreRaisedBy-none, AreRaisedBy-more, small_raised, small_wider}
use Rattle.relaxation.proofs.SweepLemmas.{IsReady-first, IsReady-next, SatisfiesGains-swept, parents_above}

-- what isn't some answer is none
pub is_none : (answer : Option ℕ) → is_some answer ≡ false → answer ≡ None
is_none None none = refl
is_none (Some register) none = cc

-- after so many sweeps, which are fewer than the registers, with parents that are kept or not
pub record IsSettling (constraints : List Constraint) (gains : Gains) (sweeps : ℕ)
    (begun now : List ℤ) (parents : List ℕ) : Type 0 where
  pub smalls : AreSmallConstraints (length now) constraints
  pub long : length parents ≡ length now
  pub few : sweeps < length now
  pub room : All (IsBelow (2 ^ 94)) begun
  pub small : All (IsBelow (2 ^ 114)) now
  pub ready : IsReady constraints gains (sweeps + 1) now parents
  pub raised : AreRaisedBy constraints gains (sweeps * 2097152) begun now

-- before the first sweep
pub IsSettling-none : {constraints : List Constraint} {gains : Gains}
    {values : List ℤ} (parents : List ℕ) → AreSmallConstraints (length values) constraints
    → length parents ≡ length values → All (IsBelow (2 ^ 94)) values → ((register : ℕ) → parent_of
    constraints parents register ≡ None) → IsSettling constraints gains 0 values values parents
IsSettling-none {constraints} {gains} {values} parents smalls long room none = record {
  smalls = smalls;
  long = long;
  few = omega (arith, smalls.some);
  room = room;
  small = small_wider (2 ^ 94) (2 ^ 114) values (omega arith) room;
  ready = IsReady-first constraints gains values parents none;
  raised = AreRaisedBy-none 0 values;
}

-- and where none are kept
pub IsSettling-unkept : {constraints : List Constraint} {gains : Gains} {values : List ℤ}
    (registers : ℕ) → registers ≡ length values → AreSmallConstraints (length values) constraints
    → All (IsBelow (2 ^ 94)) values
    → IsSettling constraints gains 0 values values (replicate registers 4294967295)
IsSettling-unkept {constraints} registers whole smalls room =
    IsSettling-none (replicate registers 4294967295) smalls
    (length-replicate {A = ℕ} registers 4294967295 ∙ whole) room
    (λ register. no_parents registers constraints register smalls.few)

module _ {constraints : List Constraint} {gains : Gains} {sweeps : ℕ} {begun now : List ℤ}
    {parents : List ℕ} (settling : IsSettling constraints gains sweeps begun now parents) where
  -- after one more sweep the values are raised so often
  pub raised_later : {later : List ℤ} → AreRaisedBy constraints gains (length constraints) now later
      → AreRaisedBy constraints gains ((sweeps + 1) * 2097152) begun later
  raised_later raised = AreRaisedBy-more (omega (arith, settling.smalls.few)) settling.raised raised

  module _ {later : List ℤ} {next : List ℕ} {changed : ℕ} (long : length next ≡ length parents)
      (swept : IsSwept constraints gains (sweeps + 1) (Some changed) later next) where
    -- where some values satisfy the constraints, no climb makes so many steps
    pub none_admitted : AdmitsGains constraints gains → (to : ℕ)
        → ReachesUp constraints next changed to → ⊥
    none_admitted admitted to reaches =
        let as_many : length now ≡ length next = omega (arith, long, settling.long) in
        none_far_up constraints gains later next to (subst (λ n. AreSmallConstraints n constraints)
        as_many settling.smalls) swept.are_parents (record {
          from = changed;
          above = reaches.0;
          long = reaches.1;
          climbs = reaches.2;
        }) admitted

    -- and where none does, there are fewer sweeps still than registers
    fewer : ((to : ℕ) → ReachesUp constraints next changed to → ⊥) → sweeps + 1 < length now
    fewer stops = by_count (cases_lt (sweeps + 1) (length now))
      where
        -- with as many sweeps as registers there would be such a climb
        by_count : (sweeps + 1 < length now) ⊎ (length now ≤ sweeps + 1) → sweeps + 1 < length now
        by_count (inl below) = below
        by_count (inr reached) =
            let found = parents_above constraints gains (sweeps + 1) (λ place. ⊤) (Some changed)
            later next swept (length next) changed
            (omega (arith, swept.changes.1, long, settling.long)) in
            absurd (stops found.0 (found.1, found.2, found.3))

    -- so sweeps go on
    pub IsSettling-more : AreRaisedBy constraints gains (length constraints) now later
        → ((to : ℕ) → ReachesUp constraints next changed to → ⊥)
        → IsSettling constraints gains (sweeps + 1) begun later next
    IsSettling-more raised stops =
        let registers = raised.raised.registers in
        let goes_on = fewer stops in
        record {
          smalls = subst (λ n. AreSmallConstraints n constraints) (sym registers) settling.smalls;
          long = omega (arith, long, settling.long, registers);
          few = omega (arith, goes_on, registers);
          room = settling.room;
          small = small_raised (2 ^ 94) (2 ^ 114) (omega (arith, goes_on, settling.smalls.not_many))
              (raised_later raised) settling.room;
          ready = IsReady-next constraints gains (sweeps + 1) changed later next swept;
          raised = raised_later raised;
        }

module _ {constraints : List Constraint} {gains : Gains} {old new : Relaxation}
    {answer : Option ℕ} (kept : old.constraints.now ≡ constraints)
    (left : IsSweep old.constraints.now gains old answer new) where
  -- the sweep is over the same constraints
  pub swept : IsSweep constraints gains old answer new
  swept = subst (λ them. IsSweep them gains old answer new) kept left

  -- which the values have still
  pub kept_later : new.constraints.now ≡ constraints
  kept_later = left.constraints_kept ∙ kept

  -- a sweep that changed nothing leaves values that satisfy the constraints
  pub satisfied_swept : {sweep : ℕ} (parents : List ℕ) → length parents ≡ length old.values.items
      → IsReady constraints gains sweep old.values.items parents → answer ≡ None
      → SatisfiesGains constraints gains 1 (value_of new.values.items)
  satisfied_swept {sweep} parents long ready none =
      let after = swept.swept sweep parents long ready in
      SatisfiesGains-swept constraints gains sweep new.values.items after.later (subst
      (λ o. IsSwept constraints gains sweep o new.values.items after.later) none after.sweeping)

  module _ {sweep : ℕ} (changed : ℕ) (some : answer ≡ Some changed)
      (long : length old.parents.items ≡ length old.values.items)
      (ready : IsReady constraints gains sweep old.values.items old.parents.items) where
    -- one that changed a register leaves the parents that are kept
    pub swept_own
        : IsSwept constraints gains sweep (Some changed) new.values.items new.parents.items
    swept_own =
        let after = swept.swept sweep old.parents.items long ready in
        subst (λ o. IsSwept constraints gains sweep o new.values.items new.parents.items) some
        (subst (λ (parents : List ℕ). IsSwept constraints gains sweep answer new.values.items
        parents) (after.kept refl) after.sweeping)

    -- where so many of them are above it, the climb stands far up
    pub far_up : (register : ℕ) → register < length new.values.items
        → ReachesUp constraints new.parents.items changed register
        → IsFarUp constraints gains new register
    far_up register within reaches = record {
      are_parents = swept_own.are_parents;
      within = within;
      ends = record {
        from = changed;
        above = reaches.0;
        long = reaches.1;
        climbs = reaches.2;
      };
    }

-- where some values satisfy the constraints, sweeps go on while they change something
pub IsSettling-admitted : {constraints : List Constraint} {gains : Gains} {sweeps : ℕ}
    {begun : List ℤ} {now later : Relaxation} {parents : List ℕ} → AdmitsGains constraints gains
    → now.constraints.now ≡ constraints
    → (settling : IsSettling constraints gains sweeps begun now.values.items parents)
    → (answer : Option ℕ) → is_some answer ≡ true
    → IsSweep now.constraints.now gains now answer later
    → (next : List ℕ) × IsSettling constraints gains (sweeps + 1) begun later.values.items next
IsSettling-admitted {sweeps = sweeps} {parents = parents} admitted kept settling (Some changed) some
    sweep =
    let whole = swept kept sweep in
    let left = whole.swept (sweeps + 1) parents settling.long settling.ready in (
      left.later,
      IsSettling-more settling left.long left.sweeping whole.raised
          (none_admitted settling left.long left.sweeping admitted),
    )
IsSettling-admitted admitted kept settling None some sweep = cc
