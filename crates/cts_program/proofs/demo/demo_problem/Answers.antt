use Rattle.cts_program.proofs.Vocabulary.{◌≡◌, ◌≤◌, ℕ, List, length, inl, inr, refl, ap, arith, err_from_is_err_and, IsShortFile}
use Rattle.cts_program.proofs.ResultLemmas.{if_ok_from, if_err_from}
use Rattle.cts_program.proofs.demo.demo_problem.Goals as goal

-- a text of 100,000 bytes isn't longer than a file may be
short : (text made : List ℕ) → text ≡ made → length text ≤ 100000 → IsShortFile made
short text made same few = omega (arith, ap (λ (bytes : List ℕ). length bytes) same)

pub returns-in_err-denoted-clause-cause : goal.returns-in_err-denoted-clause-cause
returns-in_err-denoted-clause-cause c =
    let made = c.in_ok-bench.ensures in
    let p = err_from_is_err_and c.from_residual-in_err-denoted.result
    c.from_residual-in_err-denoted.ensures.1 in
    let first = rw (c.as_slice.ensures, made.bench) at c.in_ok-circuit.ensures.means in
    let second = rw (c.as_slice-2.ensures, made.tech) at c.in_err-denoted.ensures.refuses in
    rw (p.1, p.2) (elim second [
      | inl refuses ↦ inl (inr (
        _,
        (short _ _ made.bench made.short.0, first),
        inl (inr (short _ _ made.tech made.short.1, refuses)),
      ))
      | inr memory ↦ inr memory
    ])

pub returns-clause-ok : goal.returns-clause-ok
returns-clause-ok c =
    let made = c.in_ok-bench.ensures in
    let first = rw (c.as_slice.ensures, made.bench) at c.in_ok-circuit.ensures.means in
    let second = rw (c.as_slice-2.ensures, made.tech) at c.in_ok-denoted.ensures.means in
    let third = rw (c.as_slice-3.ensures, made.pl) at c.read-3.ensures.means in
    if_ok_from c.read-3.result _ _ _ third third (λ problem means same. (
      _,
      (short _ _ made.bench made.short.0, first),
      (
        _,
        (short _ _ made.tech made.short.1, second),
        (_, (short _ _ made.pl made.short.2, means), refl),
      ),
    ))

pub returns-clause-cause : goal.returns-clause-cause
returns-clause-cause c =
    let made = c.in_ok-bench.ensures in
    let first = rw (c.as_slice.ensures, made.bench) at c.in_ok-circuit.ensures.means in
    let second = rw (c.as_slice-2.ensures, made.tech) at c.in_ok-denoted.ensures.means in
    let third = rw (c.as_slice-3.ensures, made.pl) at c.read-3.ensures.refuses in
    if_err_from c.read-3.result _ _ third (λ failure last. elim last [
      | inl refuses ↦ inl (inr (
        _,
        (short _ _ made.bench made.short.0, first),
        inr (
          _,
          (short _ _ made.tech made.short.1, second),
          inl (inr (short _ _ made.pl made.short.2, refuses)),
        ),
      ))
      | inr memory ↦ inr memory
    ])
