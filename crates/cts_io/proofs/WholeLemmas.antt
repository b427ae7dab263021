-- What pieces make together.
use Rattle.std.proofs.Common.{ℕ, ◌≡◌, ◌+◌, ◌<◌, Option, Some, None, List, [], ◌++◌, length, take, drop, refl, ap, ◌∙◌, arith, append_assoc, length-append}
use Rattle.std.proofs.lemmas.List.{take-append-drop}
use Rattle.std.proofs.Math.Seq.{take-append_seam, drop-append-add}
use Rattle.cts_io.specs.Device.{appended, WritesPrefix, Takes}

-- two pieces at the end are one
pub appended-appended : (denoted : Option (List ℕ)) (first next : List ℕ)
    → appended (appended denoted first) next ≡ appended denoted (first ++ next)
appended-appended None first next = refl
appended-appended (Some bytes) first next = ap (λ all. Some all) (append_assoc bytes first next)

-- a prefix of the rest moves after what is done
pub append-moved : (all done rest : List ℕ) (n : ℕ) → all ≡ done ++ rest
    → all ≡ (done ++ take n rest) ++ drop n rest
append-moved all done rest n parts = rw append_assoc (rw take-append-drop parts)

-- a fault while something is left keeps a prefix written
pub WritesPrefix-rest : (before now : Option (List ℕ)) (bytes done rest : List ℕ)
    → bytes ≡ done ++ rest → 0 < length rest → now ≡ appended before done
    → WritesPrefix before bytes now
WritesPrefix-rest before now bytes done rest parts some written = record {
  count = length done;
  short = rw parts (omega (arith, length-append done rest));
  written = rw (parts, take-append_seam) written;
}

-- one more take of a file of which these bytes are taken
pub Takes-next : (held taken rest buffer now : List ℕ) (n : ℕ) (after : Option (List ℕ))
    → held ≡ taken ++ rest → Takes rest n buffer after → now ≡ taken ++ take n buffer
    → (left : List ℕ) × (after ≡ Some left) × (held ≡ now ++ left)
Takes-next held taken rest buffer now n after parts takes grown =
    (drop n rest, takes.rest, rw (grown, takes.given) (append-moved held taken rest n parts))

-- a take that gives nothing leaves nothing
pub Takes-nothing : (left : List ℕ) (n : ℕ) (buffer : List ℕ) (after : Option (List ℕ))
    → Takes left n buffer after → n ≡ 0 → after ≡ Some []
Takes-nothing left n buffer after takes none =
    takes.rest ∙ (λ i. Some (drop (none i) (takes.some none i)))

-- a take that comes to this many bytes in all leaves what stands after them
pub Takes-leaves : (held taken rest buffer : List ℕ) (n sum : ℕ) (after : Option (List ℕ))
    → held ≡ taken ++ rest → Takes rest n buffer after → length taken + n ≡ sum
    → after ≡ Some (drop sum held)
Takes-leaves held taken rest buffer n sum after parts takes sums =
    rw (parts, ← sums, drop-append-add) takes.rest
