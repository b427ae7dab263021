-- Sinks of a problem.
use Rattle.std.specs.Prelude.{◌^◌}
use Rattle.cts_model.specs.declared.place.Sink.{Sink}
use Rattle.cts_model.specs.Vocabulary.{IsBelow, IsUvBelow}

-- in grid steps a sink has small coordinates and a small offset
pub record IsSmallSink (sink : Sink) : Type 0 where
  pub at : IsUvBelow (10 ^ 31) sink.at
  pub offset : IsBelow (10 ^ 32) sink.offset
