use Rattle.cts_model.proofs.Vocabulary.{◌≡◌, sym, subst, arith, ints, distance, rotated, rotated_distance}
use Rattle.cts_model.proofs.PointLemmas.{apart-rotated, same_uv}
use Rattle.cts_model.proofs.place.to_uv.Goals as goal

pub returns-clause-value : goal.returns-clause-value
returns-clause-value c = same_uv (omega (arith, ints)) (omega (arith, ints))

pub returns-clause-distance : goal.returns-clause-distance
returns-clause-distance c = λ other.
    subst (λ at. distance c.args.at other ≡ rotated_distance at (rotated other))
    (sym (returns-clause-value c)) (apart-rotated c.args.at.x c.args.at.y other.x other.y)
