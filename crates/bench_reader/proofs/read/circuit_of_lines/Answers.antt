use Rattle.bench_reader.proofs.Vocabulary.{◌≡◌, ◌<◌, ◌∙◌, inl, inr, length, refl, subst, arith, nat_tests, err_from_is_err_and, IsFaultOf, first_fault, NoMemory, use_fault}
use Rattle.bench_reader.proofs.DenotedCircuits.{no_registers, parts_circuit, parts_denoted, line_refused, use_refused}
use Rattle.bench_reader.proofs.read.circuit_of_lines.Goals as goal

pub returns-in_err-reading-clause-refused : goal.returns-in_err-reading-clause-refused
returns-in_err-reading-clause-refused c =
    let p = err_from_is_err_and c.from_residual.result c.from_residual.ensures.1 in
    rw (p.1, p.2) (line_refused c.args.bytes.now c.in_err-reading.field-0.0
    c.in_err-reading.ensures.refused)

pub returns-in_err-signals-clause-refused : goal.returns-in_err-signals-clause-refused
returns-in_err-signals-clause-refused c =
    let p = err_from_is_err_and c.from_residual-in_err-signals.result
    c.from_residual-in_err-signals.ensures.1 in
    let same = c.in_ok-reading.ensures.text in
    let valid = rw same at c.in_ok-reading.reading.valid in
    let refused = rw same at c.in_err-signals.ensures.refused in
    rw (p.1, p.2) (use_refused c.args.bytes.now c.in_err-signals.field-0.0 valid.flawless
    (subst (λ names. IsFaultOf NoMemory (first_fault (use_fault names) c.args.bytes.now)
    c.in_err-signals.field-0.0) valid.names_are refused))

pub returns-then-is_empty-clause-refused : goal.returns-then-is_empty-clause-refused
returns-then-is_empty-clause-refused c =
    let none : length c.in_ok-signals.field-0.registers ≡ 0 = grind (arith, nat_tests) in
    let same = c.in_ok-reading.ensures.text in
    let valid = rw same at c.in_ok-reading.reading.valid in
    inl (no_registers c.args.bytes.now _ c.in_ok-signals.field-0 valid.flawless valid.names_are
    (rw same at c.in_ok-signals.ensures.denoted) none)

pub returns-in_err-from_slice-clause-refused : goal.returns-in_err-from_slice-clause-refused
returns-in_err-from_slice-clause-refused c =
    let p = err_from_is_err_and c.from_residual-in_err-from_slice.result
    c.from_residual-in_err-from_slice.ensures.1 in
    rw (p.1, p.2) (inr refl)

pub invariant_of-result : goal.invariant_of-result
invariant_of-result c =
    let some : 0 < length c.in_ok-signals.field-0.registers = grind (arith, nat_tests) in
    let same = c.in_ok-reading.ensures.text in
    let valid = rw same at c.in_ok-reading.reading.valid in
    record {
      valid =
          parts_circuit c.args.bytes.now _ c.in_ok-signals.field-0 valid.flawless valid.names_are
          (rw same at c.in_ok-signals.ensures.denoted) some c.from_vec-outputs.result
          (c.from_vec-outputs.ensures ∙ c.in_ok-from_slice.ensures.items ∙ c.as_slice.ensures.keys);
    }

pub returns-clause-denoted : goal.returns-clause-denoted
returns-clause-denoted c =
    let some : 0 < length c.in_ok-signals.field-0.registers = grind (arith, nat_tests) in
    let same = c.in_ok-reading.ensures.text in
    let valid = rw same at c.in_ok-reading.reading.valid in
    parts_denoted c.args.bytes.now _ c.in_ok-signals.field-0 valid.flawless valid.names_are
    (rw same at c.in_ok-signals.ensures.denoted) some c.from_vec-outputs.result
    (c.from_vec-outputs.ensures ∙ c.in_ok-from_slice.ensures.items ∙ c.as_slice.ensures.keys) _ refl
    refl refl
