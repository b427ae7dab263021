-- After its first signal a path has gates alone.
use Rattle.cert_check.proofs.Vocabulary.{rules, IsTrue}
use Rattle.cert_check.proofs.WalkLemmas.{path_gates}
use Rattle.cert_check.proofs.given_path.ShownPath.gives_weight.Goals as goal

pub weight-requires : goal.weight-requires
weight-requires c =
    let self = c.args.self.now in
    let test : IsTrue c.is_path.result = search rules in
    path_gates self.circuit.now self.from self.to self.path.now (c.is_path.ensures.0 test)
