use Rattle.schedule.proofs.Vocabulary.{rules, FitsSigned, ◌*ℤ◌, ◌∙◌, refl, w128, arrival_of}
use Rattle.schedule.proofs.TightLemmas.{tight_read}
use Rattle.schedule.proofs.arrivals.Arrivals.has_tight.Goals as goal

pub returns : goal.returns
returns c =
    let at = c.args.self.now.at.now in
    let it = c.args.constraint.now in
    let to_fits : FitsSigned w128 (arrival_of at it.head) = search rules in
    let from_fits : FitsSigned w128 (arrival_of at it.tail) = search rules in
    tight_read (arrival_of at it.head) (arrival_of at it.tail) c.gain-gain.result
    (c.args.self.now.period.den *ℤ it.weight) c.args.self.now.period.num it.setup
    (c.args.self.now.given.from_zero
    it.head c.requires.head) (c.args.self.now.given.from_zero it.tail c.requires.tail)
    to_fits from_fits c.gain-gain.ensures.small (c.gain-gain.ensures.gain ∙ rw (
      c.gains_of.ensures.scale_is,
      c.gains_of.ensures.setup_is,
      c.gains_of.ensures.hold_is,
    ) refl)
