use Rattle.std.proofs.Common.{rules}
use Rattle.timing_tests.proofs.constraint_lists.expect_satisfied.Goals as goal

pub returns : goal.returns
returns g c = search rules
