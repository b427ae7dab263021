use Rattle.delay_tables.proofs.Vocabulary.{◌∙◌, sym, ap, texts}
use Rattle.cts_model.specs.table.TableFlaws as flaws
use Rattle.delay_tables.proofs.UnknownNames.{known_passed, unknown_taken}
use Rattle.delay_tables.proofs.names.with_name.Goals as goal

pub returns-then-is_known : goal.returns-then-is_known
returns-then-is_known c =
    known_passed c.args.least (texts c.args.way.now) c.args.name.now c.args.known.now
    (sym c.is_known.ensures ∙ c.if-is_known.true)

pub returns : goal.returns
returns c =
    c.lesser.ensures ∙ ap (flaws.lesser_name c.args.least) c.in_ok-name.ensures
    ∙ unknown_taken c.args.least (texts c.args.way.now) c.args.name.now c.args.known.now
    (sym c.is_known.ensures ∙ c.if-is_known.false)
