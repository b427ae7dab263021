-- A register more is reached: what was known of those before it stands.
use Rattle.schedule.proofs.Vocabulary.{Arrivals, ◌≡◌, ◌≢◌, ◌<◌, ◌≤◌, ◌+◌, ◌∙◌, ◌⊎◌, ℕ, Bool, true, false, if◌then◌else◌, List, [], ◌∷◌, Contains, length, get_or, inl, inr, subst, sym, ap, arith, true≢false, cases_eq, cases_lt, get_or-set_same, get_or-set_other, get_or_append_left, length-set, length-append, Zero, Tight, Reach, IsLead, depth_of, lead_at, IsAdded, IsFromReached, IsReachKept, IsReached, IsReaching, unreached}
use Rattle.std.proofs.lemmas.List.Sums.{sum_by-set}
use Rattle.std.proofs.Math.Seq.{get_or-append_seam}
use Rattle.cts_model.specs.declared.schedule.Lead.{Lead}

module _ {arrivals : Arrivals} {looked : ℕ}
    {old new : Reach} {register : ℕ} {lead : Lead}
    (reaching : IsReaching arrivals looked old) (added : IsAdded register lead old new)
    (within : register < length arrivals.at.now)
    (first : get_or old.reached.items register false ≡ false) where
  -- the register is reached
  pub flag_here : IsReached new register
  flag_here = ap (λ (l : List Bool). get_or l register false) added.flags ∙ get_or-set_same
      old.reached.items register true false (omega (arith, within, reaching.flags))

  -- of the others the same are
  flag_there : (other : ℕ) → other ≢ register
      → get_or new.reached.items other false ≡ get_or old.reached.items other false
  flag_there other apart = ap (λ (l : List Bool). get_or l other false) added.flags
      ∙ get_or-set_other old.reached.items register other true false apart

  -- those that were reached are others
  others : (other : ℕ) → IsReached old other → other ≢ register
  others other reached same =
      true≢false (sym reached ∙ (ap (λ r. get_or old.reached.items r false) same ∙ first))

  -- they stay reached
  still : (other : ℕ) → IsReached old other → IsReached new other
  still other reached = flag_there other (others other reached) ∙ reached

  -- the register's lead
  lead_here : lead_at new.leads.items register ≡ lead
  lead_here = ap (λ (l : List Lead). lead_at l register) added.leads
      ∙ get_or-set_same old.leads.items register lead Zero (omega (arith, within, reaching.long))

  -- any other's
  lead_there : (other : ℕ) → other ≢ register
      → lead_at new.leads.items other ≡ lead_at old.leads.items other
  lead_there other apart = ap (λ (l : List Lead). lead_at l other) added.leads
      ∙ get_or-set_other old.leads.items register other lead Zero apart

  -- the queue is one longer
  queue_len : length new.queue.items ≡ length old.queue.items + 1
  queue_len = ap length added.queue ∙ length-append old.queue.items (register ∷ [])

  -- it begins as it was
  queue_same : (place : ℕ) → place < length old.queue.items
      → get_or new.queue.items place 0 ≡ get_or old.queue.items place 0
  queue_same place below = ap (λ (l : List ℕ). get_or l place 0) added.queue
      ∙ get_or_append_left old.queue.items (register ∷ []) 0 place below

  -- the register is last
  queue_last : get_or new.queue.items (length old.queue.items) 0 ≡ register
  queue_last = ap (λ (l : List ℕ). get_or l (length old.queue.items) 0) added.queue
      ∙ get_or-append_seam old.queue.items register [] 0

  -- what is reached stays so
  pub IsReachKept-added : IsReachKept old new
  IsReachKept-added = record {
    kept = still;
    longer = omega (arith, queue_len);
    same = queue_same;
  }

  -- a lead from what is reached stands
  led_still : (other : ℕ) (it : Lead) → IsFromReached old it → IsLead
      (Contains arrivals.constraints.now) arrivals.period
      arrivals.at.now old.leads.items other it → IsLead (Contains arrivals.constraints.now)
      arrivals.period arrivals.at.now new.leads.items other it
  led_still other Zero from led = led
  led_still other (Tight depth constraint) from led = record {
    late = led.late;
    led = record {
      given = led.led.given;
      head = led.led.head;
      tight = led.led.tight;
      depth_is = led.led.depth_is ∙ ap (λ (l : Lead). 1 + depth_of l)
          (sym (lead_there constraint.tail (others constraint.tail from)));
    };
  }

  -- and comes from it still
  from_still : (it : Lead) → IsFromReached old it → IsFromReached new it
  from_still Zero from = from
  from_still (Tight depth constraint) from = still constraint.tail from

  module _ (led : IsLead (Contains arrivals.constraints.now) arrivals.period arrivals.at.now
      old.leads.items register lead)
      (from : IsFromReached old lead) (low : depth_of lead ≤ length old.queue.items + 1) where
    -- each that is reached has its lead
    led_now : (other : ℕ) → IsReached new other → IsLead
        (Contains arrivals.constraints.now) arrivals.period arrivals.at.now new.leads.items other
        (lead_at new.leads.items other)
    led_now other reached = elim (cases_eq other register) [
      | inl same ↦
          subst (λ r. IsLead (Contains arrivals.constraints.now) arrivals.period arrivals.at.now
          new.leads.items
          r (lead_at new.leads.items r)) (sym same)
          (subst (IsLead (Contains arrivals.constraints.now)
          arrivals.period arrivals.at.now new.leads.items register) (sym lead_here)
          (led_still register lead from led))
      | inr apart ↦
          let before = sym (flag_there other apart) ∙ reached in
          subst (IsLead (Contains arrivals.constraints.now) arrivals.period arrivals.at.now
          new.leads.items other)
          (sym (lead_there other apart)) (led_still other
          (lead_at old.leads.items other) (reaching.from other before) (reaching.led other before))
    ]

    -- from one that is reached
    from_now : (other : ℕ) → IsReached new other → IsFromReached new (lead_at new.leads.items other)
    from_now other reached = elim (cases_eq other register) [
      | inl same ↦ subst (λ r. IsFromReached new (lead_at new.leads.items r)) (sym same)
          (subst (IsFromReached new) (sym lead_here) (from_still lead from))
      | inr apart ↦
          subst (IsFromReached new) (sym (lead_there other apart)) (from_still (lead_at
          old.leads.items other) (reaching.from other (sym (flag_there other apart) ∙ reached)))
    ]

    -- no depth is above the queue's length
    low_now : (other : ℕ) → depth_of (lead_at new.leads.items other) ≤ length new.queue.items
    low_now other = elim (cases_eq other register) [
      | inl same ↦ subst (λ r. depth_of (lead_at new.leads.items r) ≤ length new.queue.items)
          (sym same) (omega (arith, ap depth_of lead_here, low, queue_len))
      | inr apart ↦
          omega (arith, ap depth_of (lead_there other apart), reaching.low other, queue_len)
    ]

    -- each that is reached stands in the queue
    waits_now : (other : ℕ) → IsReached new other → (place : ℕ)
        × (place < length new.queue.items) × (get_or new.queue.items place 0 ≡ other)
    waits_now other reached = elim (cases_eq other register) [
      | inl same ↦ (length old.queue.items, omega (arith, queue_len), queue_last ∙ sym same)
      | inr apart ↦
          let old_place = reaching.waits other (sym (flag_there other apart) ∙ reached) in (
            old_place.0,
            omega (arith, old_place.1, queue_len),
            queue_same old_place.0 old_place.1 ∙ old_place.2,
          )
    ]

    -- each in the queue is reached
    known_now : (place : ℕ) → place < length new.queue.items
        → IsReached new (get_or new.queue.items place 0)
    known_now place below = elim (cases_eq place (length old.queue.items)) [
      | inl same ↦ subst (λ p. IsReached new (get_or new.queue.items p 0)) (sym same)
          (subst (IsReached new) (sym queue_last) flag_here)
      | inr apart ↦
          let before : place < length old.queue.items = omega (arith, below, apart, queue_len) in
          subst (IsReached new) (sym (queue_same place before))
          (still (get_or old.queue.items place 0) (reaching.known place before))
    ]

    -- one fewer isn't reached
    fewer : unreached new.reached.items + 1 ≡ unreached old.reached.items
    fewer =
        let more = sum_by-set (λ (reached : Bool). if reached then 0 else 1) old.reached.items
        register true false (omega (arith, within, reaching.flags)) in
        omega (
          arith,
          ap unreached added.flags,
          more,
          ap {B = ℕ} (λ (reached : Bool). if reached then 0 else 1) first,
        )

    -- the register is reached by its lead, where it is the next that is looked at or one before
    pub IsReaching-added : (next : ℕ) → register < next → looked ≤ next → ((other : ℕ) → other
        < next → (other < looked) ⊎ (other ≡ register)) → IsReaching arrivals next new
    IsReaching-added next below over split = record {
      flags = ap length added.flags ∙ (length-set old.reached.items register true ∙ reaching.flags);
      long = ap length added.leads ∙ (length-set old.leads.items register lead ∙ reaching.long);
      zeros = λ other early zero. elim (split other early) [
        | inl before ↦ still other (reaching.zeros other before zero)
        | inr same ↦ subst (IsReached new) (sym same) flag_here
      ];
      fresh = λ other past.
          flag_there other (λ same. absurd (omega (arith, below, past, same)))
          ∙ reaching.fresh other (omega (arith, past, over));
      led = led_now;
      from = from_now;
      low = low_now;
      waits = waits_now;
      known = known_now;
      room = omega (arith, fewer, queue_len, reaching.room);
    }

-- the registers before the next one
pub next_or_before : (register other : ℕ) → other < register + 1
    → (other < register) ⊎ (other ≡ register)
next_or_before register other below = elim (cases_lt other register) [
  | inl before ↦ inl before
  | inr past ↦ inr (omega (arith, below, past))
]
