-- What was found at one register of the list more.
use Rattle.path_delays.proofs.Vocabulary.{◌≡◌, ◌+◌, ◌<◌, [], ℕ, List, Option, None, Contains, length, get_or, arith, length-map, get_or-map, subst, err_from_is_err_and, ListsPairsBefore, sym, append-nil, Circuit, Tech, PairDelay, Walk, Sums, HasReach, All, AreAllReached, ap, ◌++◌, option_to_list, ReachesEach, AreCapturedBy, AreExtremesIfAny, StandsAt, IsJoinedBy, sums_to}
use Rattle.path_delays.proofs.CapturingLemmas.{missed_path}
use Rattle.path_delays.proofs.PairCounts.{shows_too_many}
use Rattle.path_delays.proofs.PairWalk.{pair_next}
use Rattle.path_delays.specs.declared.capturing.Capture.{Capture}
use Rattle.path_delays.specs.declared.lanes.LaneSums.{LaneSums}
use Rattle.path_delays.specs.declared.capturing.Found.TheVariants.{Single}
use Rattle.path_delays.specs.Capturings.{IsCapture, IsFoundIn, registers_of}
use Rattle.path_delays.proofs.PendingPairs.{ArePassed, passed_all, passed_here, passed_next}
use Rattle.path_delays.proofs.pairs.push_pairs_from.Goals as goal

abbrev no_capture : Capture
no_capture = record { register = 0; found = Single 0; lanes = [] }

-- there are as many registers as captures
as_many : (captures : List Capture) → length (registers_of captures) ≡ length captures
as_many captures = length-map captures (λ capture. capture.register)

-- the register of a capture
register_at : (captures : List Capture) (place : ℕ) → place < length captures
    → get_or (registers_of captures) place 0 ≡ (get_or captures place no_capture).register
register_at captures place within =
    get_or-map (λ (capture : Capture). capture.register) captures place no_capture 0 within

-- what is found in the lane are the delays between the two registers
joined_by : (circuit : Circuit) (tech : Tech) (walk : Walk) (from lane to : ℕ)
    (found : Option Sums) (joined : Option PairDelay) → HasReach circuit tech from lane walk
    → IsFoundIn circuit walk lane to found
    → ((captured : List ℕ) → AreCapturedBy circuit to captured
    → ReachesEach circuit tech from lane captured walk
    → AreExtremesIfAny (StandsAt (sums_to walk lane) (Contains captured)) found
    → IsJoinedBy circuit tech from to joined)
    → IsJoinedBy circuit tech from to joined
joined_by circuit tech walk from lane to found joined reach is joins =
    joins is.captured is.exact (λ other listed. reach.each to other ((is.exact other).0 listed))
    is.each

module _ {circuit : Circuit} {walk : Walk} {merged : List LaneSums} {from i next : ℕ}
    {items captures : List Capture} (is : items ≡ captures)
    (reached : AreAllReached circuit from (registers_of captures))
    (each : All (IsCapture circuit walk merged) captures)
    (passed : ArePassed (registers_of captures) i next) (test : i < length items) where
  -- the next capture, which is one of the circuit
  abbrev capture : Capture
  capture = get_or items i no_capture

  is_capture : IsCapture circuit walk merged capture
  is_capture = rw is (each i no_capture (rw (← is) test))

  inside : i < length (registers_of captures)
  inside = omega (arith, as_many captures, ap length is)

  same_register : get_or (registers_of captures) i 0 ≡ capture.register
  same_register = rw is (register_at captures i (rw (← is) test))

  -- no pair comes between those passed and that of its register
  listed_here : (tech : Tech) (pairs : List PairDelay)
      → ListsPairsBefore circuit tech from next pairs
      → ListsPairsBefore circuit tech from capture.register pairs
  listed_here tech pairs listed = subst (λ n. ListsPairsBefore circuit tech from n pairs)
      same_register (passed_here reached passed tech pairs listed inside)

  -- and with the pair, if there is one, the list goes on
  goes_on : (lane : ℕ) (First : Tech → Type 0) (old new : List PairDelay)
      (joined : Option PairDelay) → ((tech : Tech) → HasReach circuit tech from lane walk
      → First tech → ListsPairsBefore circuit tech from next old)
      → ((tech : Tech) → HasReach circuit tech from lane walk
      → IsJoinedBy circuit tech from capture.register joined)
      → new ≡ old ++ option_to_list joined
      → (later : ℕ) × ArePassed (registers_of captures) (i + 1) later
      × ((tech : Tech) → HasReach circuit tech from lane walk → First tech
      → ListsPairsBefore circuit tech from later new)
  goes_on lane First old new joined so_far joins now = (
    get_or (registers_of captures) i 0 + 1,
    passed_next reached passed inside,
    λ tech reach first. rw same_register (pair_next circuit tech from capture.register old new
        joined (joins tech reach) now (listed_here tech old (so_far tech reach first))),
  )

pub sums-found-requires : goal.sums-found-requires
sums-found-requires c = (
  c.args.circuit.now,
  is_capture c.as_slice-capture-items.ensures.value c.requires.registers c.requires.captures
      c.loop-capture.invariant.1 c.loop-capture-test.true,
)

pub returns-in_err-push_joined-clause-many : goal.returns-in_err-push_joined-clause-many
returns-in_err-push_joined-clause-many c =
    let fault = err_from_is_err_and c.from_residual.result c.from_residual.ensures.1 in
    let circuit = c.args.circuit.now in
    let is = c.as_slice-capture-items.ensures.value in
    let test = c.loop-capture-test.true in
    rw (fault.1, fault.2) (λ tech reach listed.
    shows_too_many circuit tech c.args.from _ _ _ _
    (listed_here is c.requires.registers c.requires.captures c.loop-capture.invariant.1 test tech
    c.loop-capture.pairs.list.items (c.loop-capture.invariant.2 tech reach listed))
    (joined_by circuit tech c.args.walk.now c.args.from c.args.lane.number _ c.sums-found.result
    c.joined_pair.result reach (c.sums-found.ensures circuit
    (is_capture is c.requires.registers c.requires.captures c.loop-capture.invariant.1 test))
    (c.joined_pair.ensures circuit tech c.args.lane.number c.args.walk.now))
    c.in_err-push_joined.ensures.many)

pub loop-capture-preserved-then-not-capture-lane : goal.loop-capture-preserved-then-not-capture-lane
loop-capture-preserved-then-not-capture-lane c =
    let is = c.as_slice-capture-items.ensures.value in
    let test = c.loop-capture-test.true in
    goes_on is c.requires.registers c.requires.captures c.loop-capture.invariant.1 test
    c.args.lane.number _ c.loop-capture.pairs.list.items _ None c.loop-capture.invariant.2
    (λ tech reach. missed_path c.args.circuit.now tech c.args.from c.args.lane.number
    c.args.walk.now _ _ reach (is_capture is c.requires.registers c.requires.captures
    c.loop-capture.invariant.1 test) c.args.lane.low c.if-not-capture-lane.true)
    (sym (append-nil c.loop-capture.pairs.list.items))

pub loop-capture-preserved : goal.loop-capture-preserved
loop-capture-preserved c =
    let circuit = c.args.circuit.now in
    let is = c.as_slice-capture-items.ensures.value in
    let test = c.loop-capture-test.true in
    goes_on is c.requires.registers c.requires.captures c.loop-capture.invariant.1 test
    c.args.lane.number _ c.loop-capture.pairs.list.items _ c.joined_pair.result
    c.loop-capture.invariant.2
    (λ tech reach. joined_by circuit tech c.args.walk.now c.args.from c.args.lane.number _
    c.sums-found.result c.joined_pair.result reach (c.sums-found.ensures circuit
    (is_capture is c.requires.registers c.requires.captures c.loop-capture.invariant.1 test))
    (c.joined_pair.ensures circuit tech c.args.lane.number c.args.walk.now))
    c.in_ok-push_joined.ensures.ok

pub returns-clause-listed : goal.returns-clause-listed
returns-clause-listed c tech reach listed =
    passed_all c.requires.registers c.loop-capture.invariant.1 tech c.loop-capture.pairs.list.items
    (c.loop-capture.invariant.2 tech reach listed)
    (omega (
      arith,
      c.loop-capture-test.false,
      as_many c.args.captures.now.list.items,
      ap length c.as_slice-capture-items.ensures.value,
    ))
