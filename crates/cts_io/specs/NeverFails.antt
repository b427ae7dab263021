-- Files whose reads and writes never fail.
use Rattle.std.specs.Prelude.{ℕ, min, List, [], length, unwrap_or}
use Rattle.cts_io.specs.MemoryInputs.{held_in}
use Rattle.cts_io.specs.declared.memory_inputs.HeldFile.{HeldFile}

-- the files, and what is left of the started one
pub record FilesState : Type 0 where
  pub files : List HeldFile
  pub left : List ℕ

-- the bytes of the first file of a name; a name that isn't listed holds none
abbrev pub bytes_named : List HeldFile → List ℕ → List ℕ
bytes_named files name = unwrap_or (held_in files name) []

-- how many bytes a take gives to a buffer of this length: as many as fit
abbrev pub fitting : FilesState → ℕ → ℕ
fitting files room = min room (length files.left)

-- the count of faults
abbrev pub none : ℕ
none = 0
