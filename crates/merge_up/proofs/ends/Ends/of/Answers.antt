use Rattle.merge_up.proofs.Vocabulary.{sym}
use Rattle.merge_up.proofs.EndLemmas.{end_alone}
use Rattle.merge_up.proofs.ends.Ends.of.Goals as goal

pub returns : goal.returns
returns c = λ sinks here. record {
  high_u = end_alone here c.end_of.ensures.sink (sym c.end_of.ensures.far);
  low_u = end_alone here c.end_of-2.ensures.sink (sym c.end_of-2.ensures.far);
  high_v = end_alone here c.end_of-3.ensures.sink (sym c.end_of-3.ensures.far);
  low_v = end_alone here c.end_of-4.ensures.sink (sym c.end_of-4.ensures.far);
}
