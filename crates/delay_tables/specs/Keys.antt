-- The keys of the code as the definition of delay tables has them.
use Rattle.std.specs.Prelude.{ℕ, List, [], ◌∷◌, map}
use Rattle.std.specs.Borrow.{Bor}
use Rattle.cts_model.specs.table.TableKeys as tables
use Rattle.delay_tables.specs.declared.keys.Form.{Form}
use Rattle.delay_tables.specs.declared.keys.Form.TheVariants.{Fraction, Node, UpTo}
use Rattle.delay_tables.specs.declared.keys.Need.{Need}
use Rattle.delay_tables.specs.declared.keys.Need.TheVariants.{Always, InTable, Optional}
use Rattle.delay_tables.specs.declared.keys.Key.{Key}
use Rattle.delay_tables.specs.declared.keys.Section.{Section}

-- the texts after references
abbrev pub texts : List (Bor (List ℕ)) → List (List ℕ)
texts names = map (λ name. name.now) names

abbrev pub form_of : Form → tables.Form
form_of Fraction = tables.Fraction
form_of Node = tables.Node
form_of (UpTo most) = tables.UpTo most

abbrev pub need_of : Need → tables.Need
need_of Always = tables.Always
need_of InTable = tables.InTable
need_of Optional = tables.Optional

abbrev pub key_of : Key → tables.Key
key_of key = record { name = key.name.now; form = form_of key.form; need = need_of key.need }

abbrev pub keys_of : List Key → List tables.Key
keys_of keys = map key_of keys

abbrev pub section_of : Section → tables.Section
section_of section = record { way = section.name.now ∷ []; keys = keys_of section.keys.now }
