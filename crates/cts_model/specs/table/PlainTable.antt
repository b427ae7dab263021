-- The built-in delay table, in ticks: it is meant for a first look at a netlist.
use Rattle.std.specs.Prelude.{◌≡◌, pos, true, [], replicate}
use Rattle.cts_model.specs.declared.tech.GateDelay.{GateDelay}
use Rattle.cts_model.specs.declared.tech.Tech.{Tech}

-- one tick, whatever the inputs
abbrev pub one_tick : GateDelay
one_tick = record {
  given = true;
  least = pos 1;
  greatest = pos 1;
  least_per_input = pos 0;
  greatest_per_input = pos 0;
}

pub record IsPlainTable (tech : Tech) : Type 0 where
  pub wire_num : tech.wire_num ≡ pos 1
  pub wire_den : tech.wire_den ≡ pos 1
  pub source : tech.source ≡ []
  pub setup : tech.setup ≡ pos 2
  pub hold : tech.hold ≡ pos 1
  pub least : tech.least ≡ pos 3
  pub greatest : tech.greatest ≡ pos 3
  pub host : tech.host ≡ []
  pub floor : tech.floor ≡ pos 0
  pub gates : tech.gates ≡ replicate 8 one_tick
