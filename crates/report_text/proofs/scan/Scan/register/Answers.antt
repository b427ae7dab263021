use Rattle.report_text.proofs.Vocabulary.{◌<◌, length, ap, ◌∙◌, arith, register_name, register_named, few_registers}
use Rattle.report_text.proofs.NameNumbers.{name_read}
use Rattle.report_text.proofs.ScanLemmas.{takes_word}
use Rattle.report_text.proofs.scan.Scan.register.Goals as goal

pub returns-clause-taken : goal.returns-clause-taken
returns-clause-taken c =
    takes_word _ _ c.next-word.ensures.taken c.read_register.ensures.flaw c.keep.ensures.kept
    (register_name c.args.rules.now.circuit.now) (λ register. register < length
    c.args.rules.now.circuit.now.registers) c.read_register.ensures.value

pub returns-clause-named : goal.returns-clause-named
returns-clause-named c =
    let circuit = c.args.rules.now.circuit.now in
    name_read circuit _ c.read_register.result _ _ c.read_register.ensures.flaw
    c.read_register.ensures.value c.keep.ensures.kept.value c.keep.ensures.other
    (omega (arith, few_registers circuit)) ∙ ap (register_named circuit) c.next-word.ensures.word
