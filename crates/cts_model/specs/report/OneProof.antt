-- What a report keeps to is so in one way.
use Rattle.std.specs.Prelude.{ℕ, List, All}
use Rattle.std.proofs.Props.{props}
use Rattle.cts_model.specs.Types.{Circuit, PeriodShow, Cycle, Floor, Report, Lead, Zero, Tight, Tech, Show, Pair, Root}
use Rattle.cts_model.specs.declared.tree.Show.TheVariants.{Sink}
use Rattle.cts_model.specs.report.ReportBounds.{HasSmallWeights, HasTreeBounds, IsMergeShow, IsOfSize, IsSmallLead, IsSourceShow, LeadsAmong, ShowsAmong, ShowsPeriodAmong}

show_prop : (registers : ℕ) (show : Show) → IsProp (ShowsAmong registers show)
show_prop registers (Pair first second) = hlevel props
show_prop registers (Sink register) = hlevel props
show_prop registers Root = hlevel props

lead_prop : (registers : ℕ) (lead : Lead) → IsProp (LeadsAmong registers lead)
lead_prop registers Zero = hlevel props
lead_prop registers (Tight depth constraint) = hlevel props

period_prop : (registers : ℕ) (shown : PeriodShow) → IsProp (ShowsPeriodAmong registers shown)
period_prop registers (Cycle cycle) = hlevel props
period_prop registers Floor = hlevel props

pub size_prop : (circuit : Circuit) (report : Report) → IsProp (IsOfSize circuit report)
size_prop circuit report = hlevel (props, show_prop, lead_prop, period_prop)

pub weights_prop : (shown : PeriodShow) → IsProp (HasSmallWeights shown)
weights_prop (Cycle cycle) = hlevel props
weights_prop Floor = hlevel props

small_lead_prop : (lead : Lead) → IsProp (IsSmallLead lead)
small_lead_prop Zero = hlevel props
small_lead_prop (Tight depth constraint) = hlevel props

pub leads_prop : (leads : List Lead) → IsProp (All IsSmallLead leads)
leads_prop leads = hlevel (props, small_lead_prop)

merge_show_prop : (show : Show) → IsProp (IsMergeShow show)
merge_show_prop (Pair first second) = hlevel props
merge_show_prop (Sink register) = hlevel props
merge_show_prop Root = hlevel props

source_show_prop : (show : Show) → IsProp (IsSourceShow show)
source_show_prop (Pair first second) = hlevel props
source_show_prop (Sink register) = hlevel props
source_show_prop Root = hlevel props

pub tree_prop : (tech : Tech) (report : Report) → IsProp (HasTreeBounds tech report)
tree_prop tech report = hlevel (props, merge_show_prop, source_show_prop)
