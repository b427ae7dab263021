use Rattle.cts_model.proofs.SkewLemmas.{offsets_are_skews, skews_are_offsets, least_for_schedule, realised_meets}
use Rattle.cts_model.proofs.laws.skews.Goals as goal

pub returns-clause-realised : goal.returns-clause-realised
returns-clause-realised c = offsets_are_skews

pub returns-clause-offsets : goal.returns-clause-offsets
returns-clause-offsets c = skews_are_offsets

pub returns-clause-least : goal.returns-clause-least
returns-clause-least c = least_for_schedule

pub returns-clause-meets : goal.returns-clause-meets
returns-clause-meets c = realised_meets
