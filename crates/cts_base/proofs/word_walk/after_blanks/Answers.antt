use Rattle.std.proofs.Common.{sym}
use Rattle.cts_base.proofs.WordLemmas.{words_of-blanks, words_of-all_blank, begins-after_blanks}
use Rattle.cts_base.proofs.word_walk.after_blanks.Goals as goal

pub returns-in-Some-clause-words : goal.returns-in-Some-clause-words
returns-in-Some-clause-words c = rw c.split_at.ensures.back
    (words_of-blanks c.args.line.now c.in-Some.start (sym c.in-Some.ensures))

pub returns-in-Some-clause-begins : goal.returns-in-Some-clause-begins
returns-in-Some-clause-begins c = rw c.split_at.ensures.back
    (begins-after_blanks c.args.line.now c.in-Some.start (sym c.in-Some.ensures))

pub returns-in-None-clause-words : goal.returns-in-None-clause-words
returns-in-None-clause-words c = sym (words_of-all_blank c.args.line.now (sym c.in-None.ensures))
