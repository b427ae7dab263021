use Rattle.place_reader.proofs.Vocabulary.{◌∙◌, sym, subst, IfErr-weaker, IsFaultOf, NoMemory, said_by}
use Rattle.std.proofs.lemmas.Result.{on_ok_weaker}
use Rattle.place_reader.proofs.PlaceLemmas.{fault_is, line_taken}
use Rattle.place_reader.proofs.placing.PlacingLineFormat.read_line.Goals as goal

pub returns-clause-flawless : goal.returns-clause-flawless
returns-clause-flawless c = on_ok_weaker c.take.result
    (λ takes start earlier has number_is.
    let said = c.in-Some.ensures.said in
    let line = c.args.line.text.now in
    let entry = said_by c.in-Some.entry in (
      sym (fault_is line entry has said c.args.line.number number_is) ∙ takes.flawless,
      line_taken line entry has said c.take.ensures.wanted c.in-Some.ensures.written takes,
    )) c.take.ensures.taken

pub returns-clause-flawed : goal.returns-clause-flawed
returns-clause-flawed c = IfErr-weaker c.take.result _ _
    (λ fault found start earlier has number_is.
    subst (λ told. IsFaultOf NoMemory told fault)
    (fault_is c.args.line.text.now (said_by c.in-Some.entry) has c.in-Some.ensures.said
    c.args.line.number number_is) found) c.take.ensures.faulty
