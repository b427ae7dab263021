use Rattle.std.proofs.Common.{sym, refl}
use Rattle.cts_base.proofs.WordLemmas.{words_of-cut, words_of-whole}
use Rattle.cts_base.proofs.word_walk.first_word.Goals as goal

pub returns-in-Some : goal.returns-in-Some
returns-in-Some c =
    let cut = words_of-cut c.args.line.now c.in-Some.end c.requires.begins c.requires.some
    (sym c.in-Some.ensures) in
    rw (cut, c.split_at.ensures.front, c.split_at.ensures.back) refl

pub returns-in-None : goal.returns-in-None
returns-in-None c =
    words_of-whole c.args.line.now c.requires.begins c.requires.some (sym c.in-None.ensures)
