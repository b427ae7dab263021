-- How far the source reaches over the sinks that were looked at, and what shows it.
use Rattle.std.specs.Prelude.{◌≡◌, ◌↔◌, ◌*◌, ◌^◌, ℤ, List}
use Rattle.cts_model.specs.declared.place.Sink.{Sink}
use Rattle.cts_model.specs.declared.place.Uv.{Uv}
use Rattle.cts_model.specs.declared.tree.Show.TheVariants.{Root}
use Rattle.cts_model.specs.Vocabulary.{IsSourceReach, IsBelow, IsMultipleOf, ShowsSource}
use Rattle.place_down.specs.declared.source.Top.{Top}

-- the reach over the first of the sinks, shown among them all, by the root where it is that of
-- the root
pub record IsTop (sinks first : List Sink) (source : Uv) (root : ℤ) (top : Top) : Type 0 where
  pub reach : IsSourceReach first source root top.reach
  pub shown : ShowsSource sinks source root top.reach top.show
  pub root_shows : top.show ≡ Root ↔ (top.reach ≡ root)
  pub below : IsBelow (3 * 10 ^ 31) top.reach
  pub multiple : IsMultipleOf 4 top.reach
