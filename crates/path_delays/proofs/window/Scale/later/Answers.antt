-- The delay is small, and so are the ticks that it has over the scale.
use Rattle.path_delays.proofs.Vocabulary.{◌≡◌, ◌∙◌, ◌+ℤ◌, ◌*ℤ◌, pos, nat_abs, ap, arith, ints}
use Rattle.path_delays.proofs.WindowLemmas.{kept_delay, kept_later, ticks_within}
use Rattle.path_delays.proofs.window.Scale.later.Goals as goal

pub returns : goal.returns
returns c =
    let den = c.args.self.den in
    let whole : den ≡ pos (nat_abs den) = omega (arith, ints, c.args.self.small.above) in
    let ticks = ticks_within den c.args.delay c.args.self.small c.requires.delay in
    let later = kept_later den c.args.time c.args.delay c.from.result c.args.self.small
    c.requires.time c.requires.delay
    (c.from.ensures ∙ kept_delay c.args.delay c.requires.delay) in
    record {
      later = later ∙ ap (λ n. c.args.time +ℤ (n *ℤ c.args.delay)) whole;
      small = λ bound below. rw later (record {
        above = omega (arith, ints, below.above, ticks.above);
        below = omega (arith, ints, below.below, ticks.below);
      });
    }
