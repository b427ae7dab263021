use Rattle.std.proofs.Common.{◌≡◌, ◌++◌, drop}
use Rattle.delay_tables.proofs.Ways.{dots}
use Rattle.delay_tables.proofs.document.dotted.Given as goal

abbrev pub invariant-loop-table : goal.invariant-loop-table
invariant-loop-table l = l.text.items ++ dots (drop l.table-index l.way) ≡ dots l.way
