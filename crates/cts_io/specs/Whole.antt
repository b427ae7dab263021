-- What reading a whole file answers where the file wasn't started.
use Rattle.cts_io.specs.declared.device.StartFault.{StartFault}
use Rattle.cts_io.specs.declared.device.StartFault.TheVariants as start
use Rattle.cts_io.specs.declared.whole.ReadWhole.{ReadWhole}
use Rattle.cts_io.specs.declared.whole.ReadWhole.TheVariants as whole

-- the answer of the same name
abbrev pub read_fault_of : StartFault → ReadWhole
read_fault_of start.Failed = whole.Failed
read_fault_of start.NoMemory = whole.NoMemory
