use Rattle.merge_up.proofs.Vocabulary.{u_above, v_above, u_back, v_back}
use Rattle.merge_up.proofs.ends.Ends.joined.Goals as goal

pub returns : goal.returns
returns c = λ sinks first second one other. record {
  high_u = c.further.ensures sinks first second u_above one.high_u other.high_u;
  low_u = c.further-2.ensures sinks first second u_back one.low_u other.low_u;
  high_v = c.further-3.ensures sinks first second v_above one.high_v other.high_v;
  low_v = c.further-4.ensures sinks first second v_back one.low_v other.low_v;
}
