-- What paths and their delays are said of.
use Rattle.path_delays.specs.Types.{Circuit, Tech}

-- a circuit, and the delays of its gates and registers
pub record TimedCircuit : Type 0 where
  pub circuit : Circuit
  pub tech : Tech
