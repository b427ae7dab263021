use Rattle.cts_base.proofs.FractionReading.{judged_not_number, judged_ok, judged_spelled, judged_too_large}
use Rattle.cts_base.proofs.number.quotient.read_fraction.Goals as goal

pub returns-clause-ok : goal.returns-clause-ok
returns-clause-ok c =
    judged_ok c.args.text.now c.judged_fraction.result c.judged_fraction.ensures

pub returns-clause-spelled : goal.returns-clause-spelled
returns-clause-spelled c =
    judged_spelled c.args.text.now c.judged_fraction.result c.judged_fraction.ensures

pub returns-clause-not_number : goal.returns-clause-not_number
returns-clause-not_number c =
    judged_not_number c.args.text.now c.judged_fraction.result c.judged_fraction.ensures

pub returns-clause-too_large : goal.returns-clause-too_large
returns-clause-too_large c =
    judged_too_large c.args.text.now c.judged_fraction.result c.judged_fraction.ensures
