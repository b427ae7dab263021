use Rattle.std.proofs.Common.{rules}
use Rattle.cts_model.proofs.HostLemmas.{hosted_lists}
use Rattle.cts_model.proofs.host.with_host.Goals as goal

pub invariant_of-result : goal.invariant_of-result
invariant_of-result c =
    record { valid = hosted_lists c.args.circuit c.requires _ _ (search rules) (search rules) }
