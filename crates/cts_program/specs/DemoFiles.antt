-- What stands in place of files for the command `demo`.
use Rattle.std.specs.Prelude.{ℕ, List, [], ◌∷◌}
use Rattle.demo_input.specs.NetlistLines.{netlist_text}
use Rattle.demo_input.specs.PlacementLines.{placement_text}
use Rattle.demo_input.specs.TableLines.{table_text}

-- the texts of a demonstration, in place of what files hold: a netlist, a delay table, a placement
abbrev pub demo_texts : (registers seed : ℕ) → List (List ℕ)
demo_texts registers seed =
    netlist_text registers seed ∷ table_text ∷ placement_text registers seed ∷ []
