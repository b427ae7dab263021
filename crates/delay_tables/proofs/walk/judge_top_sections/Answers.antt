use Rattle.cts_model.specs.table.TableKeys.{top_sections}
use Rattle.delay_tables.proofs.walk.judge_top_sections.Goals as goal

pub returns : goal.returns
unfolding top_sections
returns c = c.judge_sections.ensures
