use Rattle.report_text.proofs.Vocabulary.{◌≡◌, [], get_or, ap, refl, arith, ◌∙◌, w128, to_z-of_z, get_or-drop, Words, register_named}
use Rattle.report_text.proofs.ScanLemmas.{form_read, takes_then}
use Rattle.report_text.proofs.tree_values.MergeLineLine.read.Goals as goal

pub returns-clause-read : goal.returns-clause-read
returns-clause-read c =
    let circuit = c.args.rules.now.circuit.now in
    let words = c.args.scan.now.words in
    let five = takes_then (c.exactly.ensures circuit) (takes_then (c.number-first.ensures circuit)
    (takes_then (c.number-second.ensures circuit) (takes_then (c.length-reach.ensures circuit)
    (c.keyword.ensures circuit)))) in
    let named : c.register-left.result ≡ register_named circuit (get_or words 5 []) =
    c.register-left.ensures.named ∙ ap (register_named circuit)
    (ap (λ (rest : Words). get_or rest 0 []) five.rest ∙ get_or-drop 5 words 0 []) in
    rw (to_z-of_z w128 c.length-reach.result (record { sfits = c.length-reach.type_inv }))
    (form_read refl (takes_then five (takes_then c.register-left.ensures.taken
    (rw named at c.from-right.ensures)))
    (λ are holds.
    let ((_, (first, (second, (reach, _)))), (left, (order, right))) = holds in record {
      words_are = are;
      merge = record { first = first.1; second = second.1 };
      reach = reach;
      show = omega (arith, named, order);
      among = (left, right);
    }))
