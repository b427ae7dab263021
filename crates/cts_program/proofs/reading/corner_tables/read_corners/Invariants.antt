use Rattle.cts_program.proofs.Vocabulary.{◌≡◌, ◌∷◌, length, map, take, string_bytes, Bench, corner_files, AreRead, bare}
use Rattle.cts_program.proofs.reading.corner_tables.read_corners.Given as goal

-- the tables so far are read, and the device is as it was
abbrev pub invariant-loop-place : goal.invariant-loop-place
invariant-loop-place g l = record {
  read : AreRead (g.I.Inputs.holds l.fn.inputs)
      ((Bench, l.bench) ∷ corner_files 1 (map string_bytes (take l.place l.tables)))
      (bare l.bare l.techs);
  count : length l.techs ≡ l.place;
  files : g.I.Inputs.holds l.inputs ≡ g.I.Inputs.holds l.fn.inputs;
  stays : g.I.Inputs.faults l.inputs ≡ g.I.Inputs.faults l.fn.inputs;
}
