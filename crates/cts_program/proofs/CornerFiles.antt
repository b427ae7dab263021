-- The delay tables of corners, which are read one after the other.
use Rattle.cts_program.proofs.Vocabulary.{◌≡◌, ◌<◌, ◌≤◌, ◌+◌, ℕ, suc, List, [], ◌∷◌, ◌++◌, length, map, take, drop, drop-cons, get_or, String, Global, string_bytes, Option, ap, sym, ◌∙◌, subst, arith, take-append-drop, length-map, length-take-le, map-append, map_more, Circuit, Tech, IsHostedBy, Failure, Bench, Corner, corner_files, IsRead, IsUnread, AreRead, AreUnread, Told, bare, TellsCircuit}
use Rattle.cts_model.specs.Vocabulary.{IsLoop}
use Rattle.cts_engine.proofs.HostedLoops.{acyclic_hosted}
use Rattle.cts_program.proofs.ReadLemmas.{read_more, unread_after}

-- the file after some of them, with its number
corner_files-cut : (number place : ℕ) (before : List (List ℕ)) (file : List ℕ)
    (after : List (List ℕ)) → place ≡ number + length before
    → corner_files number (before ++ file ∷ after)
    ≡ corner_files number before ++ (Corner place, file) ∷ corner_files (suc place) after
corner_files-cut number place [] file after is =
    let same : place ≡ number = omega (arith, is) in
    λ i. (Corner (sym same i), file) ∷ corner_files (suc (sym same i)) after
corner_files-cut number place (first ∷ before) file after is =
    ap (λ files. (Corner number, first) ∷ files)
    (corner_files-cut (suc number) place before file after (omega (arith, is)))

module _ (holds : List ℕ → Option (List ℕ)) (bench : List ℕ) (tables : List (String Global))
    (place : ℕ) (table : String Global) (within : place < length tables)
    (is : table ≡ get_or tables place table) where
  before : List (List ℕ)
  before = map string_bytes (take place tables)

  number : place + 1 ≡ 1 + length before
  unfolding before
  number = omega (
    arith,
    within,
    length-map (take place tables) string_bytes,
    length-take-le place tables (omega (arith, within)),
  )

  -- the files up to this table, and all files
  up_to : (Bench, bench) ∷ corner_files 1 (map string_bytes (take (place + 1) tables))
      ≡ ((Bench, bench) ∷ corner_files 1 before) ++ (Corner (place + 1), string_bytes table) ∷ []
  unfolding before
  up_to =
      let more : map string_bytes (take (place + 1) tables)
      ≡ map string_bytes (take place tables) ++ string_bytes table ∷ [] =
      map_more string_bytes tables place table within
      ∙ ap (λ t. map string_bytes (take place tables) ++ string_bytes t ∷ []) (sym is) in
      ap (λ files. (Bench, bench) ∷ corner_files 1 files) more
      ∙ ap (λ files. (Bench, bench) ∷ files)
      (corner_files-cut 1 (place + 1) (map string_bytes (take place tables)) (string_bytes table) []
      number)

  all : (Bench, bench) ∷ corner_files 1 (map string_bytes tables)
      ≡ ((Bench, bench) ∷ corner_files 1 before) ++ (Corner (place + 1), string_bytes table)
      ∷ corner_files (suc (place + 1)) (map string_bytes (drop (suc place) tables))
  unfolding before
  all =
      let split : tables ≡ take place tables ++ (table ∷ drop (suc place) tables) =
      sym (take-append-drop place tables)
      ∙ ap (λ rest. take place tables ++ rest) (drop-cons tables place table within)
      ∙ ap (λ t. take place tables ++ (t ∷ drop (suc place) tables)) (sym is) in
      ap (λ files. (Bench, bench) ∷ corner_files 1 files)
      (ap (map string_bytes) split
      ∙ map-append string_bytes (take place tables) (table ∷ drop (suc place) tables))
      ∙ ap (λ files. (Bench, bench) ∷ files)
      (corner_files-cut 1 (place + 1) (map string_bytes (take place tables)) (string_bytes table)
      (map string_bytes (drop (suc place) tables)) number)

  module _ {told : Told}
      (read : AreRead holds ((Bench, bench) ∷ corner_files 1 (map string_bytes (take place tables)))
      told) where
    -- one more table
    pub corner_read : {next : Told}
        → IsRead (holds (string_bytes table)) (Corner (place + 1)) told next → AreRead holds
        ((Bench, bench) ∷ corner_files 1 (map string_bytes (take (place + 1) tables))) next
    unfolding before
    corner_read {next} last =
        subst (λ files. AreRead holds files next) (sym up_to)
        (read_more holds read (Corner (place + 1), string_bytes table) last)

    -- or one that isn't read
    pub corner_unread : (reads reads_now : List ℕ → ℕ) (failure : Failure)
        → IsUnread (holds (string_bytes table)) (reads (string_bytes table))
        (reads_now (string_bytes table)) (Corner (place + 1)) told failure
        → AreUnread holds reads reads_now
        ((Bench, bench) ∷ corner_files 1 (map string_bytes tables)) failure
    unfolding before
    corner_unread reads reads_now failure unread =
        subst (λ files. AreUnread holds reads reads_now files failure) (sym all)
        (unread_after holds read (Corner (place + 1), string_bytes table) reads reads_now
        (corner_files (suc (place + 1)) (map string_bytes (drop
        (suc place) tables))) failure unread)

-- the circuit has the host that the first table gives it
pub corners_circuit : (only circuit : Circuit) (techs : List Tech) (first : Tech)
    → 1 ≤ length techs → first ≡ get_or techs 0 first → IsHostedBy first only circuit
    → TellsCircuit (bare only techs) circuit
corners_circuit only circuit [] first some is hosted = absurd (omega (arith, some))
corners_circuit only circuit (tech ∷ techs) first some is hosted =
    subst (λ t. IsHostedBy t only circuit) is hosted

-- no gates of it form a ring
pub corners_acyclic : (only circuit : Circuit) (techs : List Tech)
    → ((loop : List ℕ) → IsLoop only.signals loop → ⊥) → TellsCircuit (bare only techs) circuit
    → (loop : List ℕ) → IsLoop circuit.signals loop → ⊥
corners_acyclic only circuit [] acyclic same loop ring =
    acyclic loop (subst (λ c. IsLoop c.signals loop) same ring)
corners_acyclic only circuit (tech ∷ techs) acyclic hosted loop ring =
    acyclic_hosted tech only circuit acyclic hosted loop ring
