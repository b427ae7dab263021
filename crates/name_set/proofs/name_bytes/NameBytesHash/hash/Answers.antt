use Rattle.std.proofs.Common.{fold, sym, ap, ◌∙◌}
use Rattle.name_set.proofs.HashedWords.{hashed_words-long, hashed_words-short}
use Rattle.name_set.proofs.name_bytes.NameBytesHash.hash.Goals as goal

pub loop-rest-preserved : goal.loop-rest-preserved
loop-rest-preserved g c =
    rw (c.write.ensures, c.split_at.ensures.front, c.split_at.ensures.back)
    (ap (fold g.H.Hasher.write c.loop-rest.state)
    (sym (hashed_words-long c.loop-rest.rest.now c.loop-rest-test.true)) ∙ c.loop-rest.invariant)

pub returns : goal.returns
returns g c =
    rw (c.write-3.ensures, c.write-2.ensures)
    (ap (fold g.H.Hasher.write c.loop-rest.state)
    (sym (hashed_words-short c.loop-rest.rest.now c.loop-rest-test.false)) ∙ c.loop-rest.invariant)
