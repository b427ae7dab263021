use Rattle.cts_engine.proofs.Vocabulary.{◌∙◌, arith, ints, number_read}
use Rattle.cts_engine.proofs.SessionLemmas.{moved_stands}
use Rattle.cts_engine.proofs.session.move_register.Goals as goal

pub returns-clause-stands : goal.returns-clause-stands
returns-clause-stands c problem period schedule merges places at =
    let read = number_read c.args.grid (omega (arith, ints, c.requires.grid.within)) in
    moved_stands problem period schedule merges c.args.grid places c.args.register c.args.at
    c.sink_place.result c.args.session.now c.move_sink.new.self c.requires.register at
    (λ grid. c.sink_place.ensures.value period problem.tech (read ∙ grid))
    c.move_sink.ensures.stands
