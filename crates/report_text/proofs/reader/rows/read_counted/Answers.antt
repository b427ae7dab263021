use Rattle.report_text.proofs.Vocabulary.{arith}
use Rattle.report_text.proofs.WalkLemmas.{passed_on, stop_before, stop_after, stop_line}
use Rattle.report_text.proofs.reader.rows.read_counted.Goals as goal

pub read_rows-requires : goal.read_rows-requires
read_rows-requires g c =
    let line = c.in_ok-read_count.ensures.ok in
    let read = line.read c.args.rules.now.scale line.flawless in
    record { few = omega (arith, read.number, c.requires.few) }

pub returns-in_err-read_count-clause-fault : goal.returns-in_err-read_count-clause-fault
returns-in_err-read_count-clause-fault g c = search (arith, passed_on, stop_before, stop_line)

pub returns-in_err-rows-clause-fault : goal.returns-in_err-rows-clause-fault
returns-in_err-rows-clause-fault g c =
    let line = c.in_ok-read_count.ensures.ok in
    passed_on _ _ _ c.from_residual-in_err-rows.ensures.1
    (stop_after (line.read _ line.flawless) _ _ c.in_err-rows.ensures.fault)
