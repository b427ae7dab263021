use Rattle.std.proofs.Common.{◌≡◌, length, fold}
use Rattle.name_set.specs.HashedWords.{hashed_words}
use Rattle.name_set.proofs.name_bytes.NameBytesHash.hash.Given as goal

abbrev pub invariant-loop-rest : goal.invariant-loop-rest
invariant-loop-rest g l =
    fold g.H.Hasher.write l.state (hashed_words l.rest)
    ≡ fold g.H.Hasher.write l.initial.state (hashed_words l.self.bytes.now)

abbrev pub decreases-loop-rest : goal.decreases-loop-rest
decreases-loop-rest g l = length l.rest
