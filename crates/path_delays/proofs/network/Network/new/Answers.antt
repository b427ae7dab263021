-- The readers, the ranks and the delays are those of the circuit.
use Rattle.path_delays.proofs.Vocabulary.{◌≡◌, arith, ◌∙◌, common_steps}
use Rattle.path_delays.proofs.NetworkLemmas.{AreReaders-grouped}
use Rattle.path_delays.proofs.network.Network.new.Goals as goal

pub returns-clause-network : goal.returns-clause-network
returns-clause-network c =
    let circuit = c.args.circuit.now in
    let order : c.in_ok-order.order.items ≡ c.args.levels.now =
    c.in_ok-order.ensures.items ∙ c.gates.ensures in
    record {
      readers = AreReaders-grouped circuit.signals c.in_ok-pairs.pairs.items c.in_ok-readers.readers
          circuit.valid.read c.in_ok-pairs.ensures
          (rw (c.len-signals.ensures, c.as_slice.ensures.value) at c.in_ok-readers.ensures);
      ranks = rw order c.in_ok-ranks.ensures;
      once = rw order c.requires.once;
      delays = c.in_ok-delays.ensures;
      inputs = c.in_ok-inputs.ensures;
    }

pub of-requires-clause-few : goal.of-requires-clause-few
of-requires-clause-few c = grind (arith, common_steps)
