use Rattle.cts_engine.proofs.zero.zero_of.Goals as goal

pub returns-clause-ok : goal.returns-clause-ok
returns-clause-ok c = c.zero_skew.ensures.least c.args.circuit.now c.in_ok-pairs.ensures.ok.lists
