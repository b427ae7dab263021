-- A constraint whose tail isn't above the cap raises its head, or nothing changes.
use Rattle.relaxation.proofs.Vocabulary.{◌^◌, arith, ints}
use Rattle.relaxation.proofs.RelaxLemmas.{nowhere}
use Rattle.relaxation.proofs.RiseLemmas.{small_wider}
use Rattle.relaxation.proofs.StepLemmas.{IsRoomKept-one}
use Rattle.relaxation.proofs.rounds.Rounds.offer.Goals as goal

pub relax-raised-requires-clause-small : goal.relax-raised-requires-clause-small
relax-raised-requires-clause-small c =
    small_wider (2 ^ 94) (2 ^ 115) _ (omega arith) c.args.self.now.small

pub invariant_of-self : goal.invariant_of-self
invariant_of-self c =
    let found = c.in-Some.ensures.lookup.3 in
    let kept = IsRoomKept-one c.relax-raised.result c.args.self.now.relaxation c.index.result.now
    c.args.self.now.small found.0 (found.1 nowhere) c.index.ensures
    (omega (arith, ints, c.if-index-gt-CAP.false)) c.relax-raised.ensures in
    record {
      parents = omega (arith, kept.parents, kept.registers, c.args.self.now.parents);
      marked = omega (arith, kept.registers, c.args.self.now.marked);
      small = kept.small;
    }

pub returns : goal.returns
returns c =
    let found = c.in-Some.ensures.lookup.3 in
    let kept = IsRoomKept-one c.relax-raised.result c.args.self.now.relaxation c.index.result.now
    c.args.self.now.small found.0 (found.1 nowhere) c.index.ensures
    (omega (arith, ints, c.if-index-gt-CAP.false)) c.relax-raised.ensures in
    record {
      same = record { constraints = kept.constraints; registers = kept.registers };
      raised = kept.raised;
    }
