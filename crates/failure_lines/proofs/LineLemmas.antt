-- Lines on their way to a sink.
use Rattle.std.proofs.Common.{ℕ, ◌≡◌, ◌≤◌, ◌+◌, Bool, true, false, List, [], ◌∷◌, ◌++◌, length, take, Option, Some, None, Result, Ok, Err, OnOk, OnErr, is_err, inl, inr, refl, ap, sym, ◌∙◌, arith, append_assoc, append-nil, length-append, suc, zero-add, subst}
use Rattle.cts_io.specs.Device.{Rose, appended, WritesPrefix}
use Rattle.failure_lines.specs.Failures.{Reports}
use Rattle.failure_lines.specs.Line.{Way, IsToldTo, IsTold, Puts}

-- no bytes more
appended-nil : (before : Option (List ℕ)) → appended before [] ≡ before
appended-nil None = refl
appended-nil (Some bytes) = ap (λ b. Some b) (append-nil bytes)

-- what stands after a prefix stands after what the prefix stands after
appended-appended : (before : Option (List ℕ)) (first second : List ℕ)
    → appended (appended before first) second ≡ appended before (first ++ second)
appended-appended None first second = refl
appended-appended (Some bytes) first second = ap (λ b. Some b) (append_assoc bytes first second)

-- a prefix of what stands after others
take-suffix : (first second : List ℕ) (count : ℕ)
    → take (length first + count) (first ++ second) ≡ first ++ take count second
take-suffix [] second count = rw (zero-add count) refl
take-suffix (byte ∷ first) second count =
    let longer : length (byte ∷ first) + count ≡ suc (length first + count) = omega arith in
    rw longer (ap (λ bytes. byte ∷ bytes) (take-suffix first second count))

-- a prefix of a last part is one of all
last_written : (before mid now : Option (List ℕ)) (first second : List ℕ)
    → mid ≡ appended before first → WritesPrefix mid second now
    → WritesPrefix before (first ++ second) now
last_written before mid now first second there part = record {
  count = length first + part.count;
  short = let short = part.short in omega (arith, length-append first second);
  written = part.written ∙ ap (λ m. appended m (take part.count second)) there
      ∙ appended-appended before first (take part.count second)
      ∙ ap (appended before) (sym (take-suffix first second part.count));
}

-- an empty line
pub told_nothing : (before : Option (List ℕ)) (faults : ℕ)
    → IsTold [] before faults (record { held = []; failed = false }, before, faults)
told_nothing before faults =
    (record { done = []; parts = refl; written = sym (appended-nil before) }, omega arith)

-- what is put one after the other is put
pub puts_both : {first second : List ℕ} {old mid now : Way} → Puts first old mid
    → Puts second mid now → Puts (first ++ second) old now
puts_both {first} {second} {now = now} one other = record {
  told = λ text before faults told.
      subst (λ t. IsTold t before faults now) (append_assoc text first second)
      (other.told (text ++ first) before faults (one.told text before faults told));
}

-- a line stays as it is where the sink has failed
pub puts_failed : (held left : List ℕ) (written : Option (List ℕ)) (count : ℕ)
    → Puts [] (record { held = held; failed = true }, written, count)
    (record { held = left; failed = true }, written, count)
puts_failed held left written count =
    record { told = λ text before faults told. rw append-nil told }

-- what is held is written, or the sink fails
pub puts_rest : {T E : Type 0} (result : Result T E) (held : List ℕ) (written now : Option (List ℕ))
    (count counted : ℕ) → OnOk result (now ≡ appended written held)
    → OnErr result (WritesPrefix written held now) → OnErr result (Rose count counted)
    → count ≤ counted → Puts [] (record { held = held; failed = false }, written, count)
    (record { held = []; failed = is_err result }, now, counted)
puts_rest (Ok x) held written now count counted all part rose more =
    record {
      told = λ text before faults (told, kept). (
        record {
          done = told.done ++ held;
          parts = ap (λ t. t ++ []) told.parts;
          written = all ∙ ap (λ m. appended m held) told.written
              ∙ appended-appended before told.done held;
        },
        omega arith,
      );
    }
puts_rest (Err e) held written now count counted all part rose more =
    record {
      told = λ text before faults (told, kept). (
        rw (append-nil, told.parts)
            (last_written before written now told.done held told.written part),
        omega arith,
      );
    }

-- a line of which nothing is held is reported
pub told_reported : (failed : Bool) (text : List ℕ) (before now : Option (List ℕ))
    (faults counted : ℕ) → IsToldTo failed text before faults [] now counted
    → Reports text before faults now counted
told_reported false text before now faults counted (told, more) =
    inl (told.written ∙ ap (appended before) (sym (told.parts ∙ append-nil told.done)))
told_reported true text before now faults counted part = inr part
