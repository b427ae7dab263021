-- Calls of the host that a signal may interrupt, and what a caller is given who tries them again.
-- EINTR of POSIX; `ErrorKind::Interrupted` of Rust's std.
use Rattle.std.specs.Prelude.{◌≡◌, ◌≢◌, ◌+◌, ◌-◌, ◌^◌, ◌<◌, ℕ, zero, suc, Result, Ok, Err, IsErr, IsErrAnd, MatchResult}
use Rattle.std.specs.IoError.{error_kind}
use Rattle.std.specs.declared.io.Error.{Error}
use Rattle.std.specs.declared.io.ErrorKind.TheVariants.{Interrupted, OutOfMemory}
use Rattle.cts_io.specs.declared.device.Failed.{Failed}
use Rattle.cts_io.specs.declared.device.StartFault.{StartFault}
use Rattle.cts_io.specs.declared.device.StartFault.TheVariants as start

-- a signal came between
abbrev pub IsInterrupted : {A : Type 0} → Result A Error → Type 0
IsInterrupted answer = IsErrAnd answer (λ error. error_kind error ≡ Interrupted)

-- so many calls, each of them interrupted, lead from the first state to the last
unfoldable pub AreInterrupted : {S A : Type 0} → (S → Result A Error → S → Type 0) → ℕ
    → S → S → Type 0
AreInterrupted Call zero first last = last ≡ first
AreInterrupted {S} {A} Call (suc calls) first last = (before : S) × (answer : Result A Error)
    × AreInterrupted Call calls first before × Call before answer last × IsInterrupted answer

-- a read that gave bytes, or none at the end, is answered so; an error is a fault
abbrev pub AnswersRead : Result ℕ Error → Result ℕ Failed → Type 0
AnswersRead answer denoted = MatchResult answer (λ n. denoted ≡ Ok n) (λ error. IsErr denoted)

-- the same of a write, where it is a fault too that nothing was taken
abbrev pub AnswersWrite : Result ℕ Error → Result ℕ Failed → Type 0
AnswersWrite answer denoted =
    MatchResult answer (λ n. (n ≡ 0 → IsErr denoted) × (0 < n → denoted ≡ Ok n))
    (λ error. IsErr denoted)

-- an opened file is answered, and so is want of memory; any other error is a fault
abbrev pub AnswersOpen : {F : Type 0} → Result F Error → Result F StartFault → Type 0
AnswersOpen answer denoted = MatchResult answer (λ file. denoted ≡ Ok file)
    (λ error. (error_kind error ≡ OutOfMemory → denoted ≡ Err start.NoMemory)
    × (error_kind error ≢ OutOfMemory → denoted ≡ Err start.Failed))

-- calls from the first state to the last, all but the last of them interrupted, and what is said of
-- the last; only a call of number 2^64 - 1 is the last though it was interrupted
pub record Tried {S A T : Type 0} (Call : S → Result A Error → S → Type 0)
    (Denotes : Result A Error → T → Type 0) (first : S) (denoted : T) (last : S) : Type 0 where
  pub calls : ℕ
  pub before : S
  pub interrupted : AreInterrupted Call calls first before
  pub answer : Result A Error
  pub call : Call before answer last
  pub denotes : Denotes answer denoted
  pub over : IsInterrupted answer → calls + 1 ≡ 2 ^ 64 - 1
