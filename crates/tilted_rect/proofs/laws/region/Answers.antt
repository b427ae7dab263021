use Rattle.tilted_rect.proofs.RegionLemmas.{region_is_between, region_has_extreme_sides, region_has_point, squares_meet, wider_region_is_near}
use Rattle.tilted_rect.proofs.laws.region.Goals as goal

pub returns-clause-between : goal.returns-clause-between
returns-clause-between c = region_is_between

pub returns-clause-sides : goal.returns-clause-sides
returns-clause-sides c = region_has_extreme_sides

pub returns-clause-has_point : goal.returns-clause-has_point
returns-clause-has_point c = region_has_point

pub returns-clause-squares : goal.returns-clause-squares
returns-clause-squares c = squares_meet

pub returns-clause-wider : goal.returns-clause-wider
returns-clause-wider c = wider_region_is_near
