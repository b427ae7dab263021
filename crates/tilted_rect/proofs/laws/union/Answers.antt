use Rattle.tilted_rect.proofs.ExtremeLemmas.{append_is_union, extremes_union}
use Rattle.tilted_rect.proofs.MergeLemmas.{grown_regions_meet_in_region, grown_regions_meet}
use Rattle.tilted_rect.proofs.laws.union.Goals as goal

pub returns-clause-append : goal.returns-clause-append
returns-clause-append c = append_is_union

pub returns-clause-extremes : goal.returns-clause-extremes
returns-clause-extremes c = extremes_union

pub returns-clause-region : goal.returns-clause-region
returns-clause-region c = grown_regions_meet_in_region

pub returns-clause-meet : goal.returns-clause-meet
returns-clause-meet c = grown_regions_meet
