-- Each of both times moves by no more than 10^10.
use Rattle.path_delays.proofs.Vocabulary.{◌≡◌, ◌∙◌, arith, ints}
use Rattle.path_delays.proofs.WindowLemmas.{kept, kept_time, kept_delay}
use Rattle.path_delays.proofs.window.Window.suffix.Goals as goal

pub returns : goal.returns
returns c =
    let early : kept c.later.result ≡ c.later.result = omega (arith, ints, c.later.type_inv) in
    let late : kept c.later-2.result ≡ c.later-2.result = omega (arith, ints, c.later-2.type_inv) in
    let from = kept_time c.args.self.earliest c.requires.window.earliest (omega arith) in
    let to = kept_time c.args.self.latest c.requires.window.latest (omega arith) in
    let first = early ∙ rw (from, kept_delay c.args.delay.least c.requires.delay.least) at
    c.later.ensures.later in
    let last = late ∙ rw (to, kept_delay c.args.delay.greatest c.requires.delay.greatest) at
    c.later-2.ensures.later in
    record {
      suffix = λ i. record { earliest = first i; latest = last i };
      small = λ bound below. record {
        earliest = rw early (c.later.ensures.small bound (rw from below.earliest));
        latest = rw late (c.later-2.ensures.small bound (rw to below.latest));
      };
    }
