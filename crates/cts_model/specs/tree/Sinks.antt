-- Sinks as clock trees are made over them. Boese and Kahng 1992; Chao and others 1992.
use Rattle.std.specs.Prelude.{◌^◌, ◌≤◌, List, All, length}
use Rattle.cts_model.specs.Types.{Sink}
use Rattle.cts_model.specs.placement.Points.{IsBelow, IsMultipleOf, IsUvBelow, IsUvMultipleOf}

-- place and offset are whole numbers of 8 grid steps, so that no halving on the way up is lost
pub record IsTreeSink (sink : Sink) : Type 0 where
  pub at_below : IsUvBelow (10 ^ 31) sink.at
  pub at_multiple : IsUvMultipleOf 8 sink.at
  pub offset_below : IsBelow (10 ^ 31) sink.offset
  pub offset_multiple : IsMultipleOf 8 sink.offset

-- there are 1 to 4,097 of them
pub record AreTreeSinks (sinks : List Sink) : Type 0 where
  pub some : 1 ≤ length sinks
  pub few : length sinks ≤ 4097
  pub each : All IsTreeSink sinks
