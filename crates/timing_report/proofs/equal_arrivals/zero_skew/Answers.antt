use Rattle.timing_report.proofs.PairListLemmas.{least_of_list, small_of_list}
use Rattle.timing_report.proofs.equal_arrivals.zero_skew.Goals as goal

pub returns-clause-least : goal.returns-clause-least
returns-clause-least c =
    λ circuit lists. least_of_list lists _ (rw c.as_slice.ensures at c.zero_skew_of.ensures)

pub returns-clause-small : goal.returns-clause-small
returns-clause-small c =
    small_of_list _ _ _ c.requires (rw c.as_slice.ensures at c.zero_skew_of.ensures)
