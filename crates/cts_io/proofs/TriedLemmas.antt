-- Calls that are tried again while they are interrupted.
use Rattle.std.proofs.Common.{ℕ, zero, suc, ◌≡◌, ◌+◌, ◌-◌, ◌^◌, Result, Ok, Err, refl, arith}
use Rattle.std.specs.IoError.{error_kind}
use Rattle.std.specs.declared.io.Error.{Error}
use Rattle.std.specs.declared.io.ErrorKind.TheVariants.{Interrupted}
use Rattle.cts_io.specs.Stream.{IsInterrupted, AreInterrupted, Tried}

module _ {S A : Type 0} (Call : S → Result A Error → S → Type 0) where
  -- no call leaves all as it was
  pub none_interrupted : (first : S) → AreInterrupted Call 0 first first
  unfolding AreInterrupted
  none_interrupted first = refl

  -- one more call
  pub one_more_interrupted : (calls : ℕ) (first before last : S) (answer : Result A Error)
      → AreInterrupted Call calls first before → Call before answer last → IsInterrupted answer
      → AreInterrupted Call (calls + 1) first last
  unfolding AreInterrupted
  one_more_interrupted calls first before last answer earlier call interrupted =
      let more : calls + 1 ≡ suc calls = omega arith in
      rw more (before, answer, earlier, call, interrupted)

  module _ {T : Type 0} (Denotes : Result A Error → T → Type 0) where
    -- the last call gives, which no signal interrupted
    pub denoted_at_last : (calls : ℕ) (first before last : S) (answer : Result A Error)
        (denoted : T)
        → AreInterrupted Call calls first before → Call before answer last → Denotes answer denoted
        → (IsInterrupted answer → ⊥) → Tried Call Denotes first denoted last
    denoted_at_last calls first before last answer denoted earlier call denotes settled = record {
      calls = calls;
      before = before;
      interrupted = earlier;
      answer = answer;
      call = call;
      denotes = denotes;
      over = λ interrupted. absurd (settled interrupted);
    }

    -- all calls were interrupted, and what the last of them gives is answered
    pub denoted_at_the_limit : (calls : ℕ) (first last : S) (denoted : T)
        → AreInterrupted Call calls first last → calls ≡ 2 ^ 64 - 1
        → ((error : Error) → error_kind error ≡ Interrupted → Denotes (Err error) denoted)
        → Tried Call Denotes first denoted last
    unfolding AreInterrupted
    denoted_at_the_limit zero first last denoted earlier limit denotes = absurd (omega arith)
    denoted_at_the_limit (suc calls) first last denoted earlier limit denotes = record {
      calls = calls;
      before = earlier.0;
      interrupted = earlier.2;
      answer = earlier.1;
      call = earlier.3;
      denotes = last_denotes earlier.1 earlier.4;
      over = λ _. omega arith;
    }
      where
        last_denotes : (answer : Result A Error) → IsInterrupted answer → Denotes answer denoted
        last_denotes (Ok value) interrupted = absurd interrupted
        last_denotes (Err error) interrupted = denotes error interrupted
