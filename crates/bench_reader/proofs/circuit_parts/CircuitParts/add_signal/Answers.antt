use Rattle.bench_reader.proofs.Vocabulary.{◌∷◌, ◌++◌, [], sym, ap, ◌∙◌, on_ok_weaker}
use Rattle.bench_reader.proofs.PartLists.{registers_stay, registers_grow}
use Rattle.bench_reader.proofs.circuit_parts.CircuitParts.add_signal.Goals as goal

pub returns-then-is_register-clause-registers : goal.returns-then-is_register-clause-registers
returns-then-is_register-clause-registers c =
    on_ok_weaker c.push-then-is_register.result
    (λ put are. registers_grow _ _ c.in_ok-push.ensures.ok are
    (sym c.is_register.ensures ∙ c.if-is_register.true)
    (put ∙ ap (λ n. c.args.self.now.registers ++ n ∷ []) c.len-number.ensures))
    c.push-then-is_register.ensures.ok

pub returns-else-is_register-clause-registers : goal.returns-else-is_register-clause-registers
returns-else-is_register-clause-registers c = λ are. registers_stay _ _ c.in_ok-push.ensures.ok are
    (sym c.is_register.ensures ∙ c.if-is_register.false)
