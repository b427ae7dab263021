-- The fixed words and the forms of a report's lines. They are this project's choice.
use Rattle.std.specs.Prelude.{Bool, List, [], codes, get_or, if◌then◌else◌, length, map, nat_le, pos, replicate, suc, zero, ℕ, ◌&&◌, ◌*◌, ◌++◌, ◌+◌, ◌-◌, ◌/◌, ◌==◌, ◌^◌, ◌∷◌}
use Rattle.report_text.specs.Common.{Circuit, First, Second, Version, register_name, count_in, LineForm, Scale, position_or_len, range_with_len, bytes_eq}
use Rattle.report_text.specs.LineForms as form
use Rattle.report_text.specs.LineFields as field

-- the word of a version
abbrev pub version_text : Version → List ℕ
version_text First = codes "1"
version_text Second = codes "2"

-- the word at a place is that one
abbrev pub is_word : List (List ℕ) → ℕ → (word : List ℕ) → Bool
is_word words place word = bytes_eq (get_or words place []) word

-- the number of the register of that name, and how many there are where none has it
abbrev pub register_named : Circuit → List ℕ → ℕ
register_named circuit name = position_or_len
    (λ register. bytes_eq (register_name circuit register) name)
    (range_with_len 0 (length circuit.registers))

-- a length, in grid steps
abbrev pub length_field : Scale → field.Field
length_field scale = field.Steps scale.grid (pos (10 ^ 32))

abbrev pub slack_field : Scale → field.Field
slack_field scale = field.Slack scale.den (pos (10 ^ 20))

-- setup or hold, the register that launches, the one that captures, and the weight
abbrev pub constraint_fields : List field.Field
constraint_fields = field.Kind ∷ field.Register ∷ field.Register ∷ field.Weight ∷ []

-- a node's place, the length of its edge, and 1 to 5 points, by the number of words
abbrev pub node_fields : Scale → (node points : ℕ) → List field.Field
node_fields scale node points = field.Exactly node ∷ length_field scale ∷ length_field scale
    ∷ length_field scale ∷ field.Exactly points ∷ replicate (2 * points) (length_field scale)

abbrev pub points_of : List (List ℕ) → ℕ
points_of words = (length words - 5) / 2

abbrev pub has_points : List (List ℕ) → Bool
has_points words = (length words == 5 + 2 * points_of words)
    && (nat_le 1 (points_of words) && nat_le (points_of words) 5)

-- the fields of a line of that form: a cycle says how many constraints it has, a path how many
-- signals, where it is printed; there are none for a number of words that no node has
abbrev pub fields_of : Circuit → Scale → LineForm → List (List ℕ) → List field.Field
fields_of circuit scale form.Version words = field.Word (codes "cts") ∷ field.Version ∷ []
fields_of circuit scale form.Period words = field.Word (codes "period") ∷ field.Period ∷ []
fields_of circuit scale form.Show words = if is_word words 0 (codes "floor")
    then field.Word (codes "floor") ∷ [] else field.Word (codes "cycle") ∷ field.Number 1 9999 ∷ []
fields_of circuit scale form.Constraint words = constraint_fields
fields_of circuit scale form.Path words = if is_word words 1 (codes "-")
    then field.Word (codes "path") ∷ field.Word (codes "-") ∷ []
    else field.Word (codes "path") ∷ field.Counted (length words - 2) 65536
    ∷ replicate (length words - 2) field.Signal
fields_of circuit scale (form.Count word count) words = field.Word word ∷ field.Exactly count ∷ []
fields_of circuit scale (form.Register register) words = field.Named register
    ∷ field.Steps scale.den (pos (10 ^ 19)) ∷ slack_field scale ∷ slack_field scale ∷ []
fields_of circuit scale form.Lead words = if is_word words 1 (codes "0")
    then field.Word (codes "lead") ∷ field.Word (codes "0") ∷ []
    else field.Word (codes "lead") ∷ field.Number 1 9999 ∷ constraint_fields
fields_of circuit scale (form.Merge node) words = field.Exactly node ∷ field.Number 0 9999
    ∷ field.Number 0 9999 ∷ length_field scale ∷ field.Word (codes "pair") ∷ field.Register
    ∷ field.From (register_named circuit (get_or words 5 [])) ∷ []
fields_of circuit scale form.Source words = field.Word (codes "source") ∷ length_field scale
    ∷ (if is_word words 2 (codes "root")
    then field.Word (codes "root") ∷ [] else field.Word (codes "sink") ∷ field.Register ∷ [])
fields_of circuit scale (form.Node node) words =
    if has_points words then node_fields scale node (points_of words) else []
fields_of circuit scale form.Total words =
    field.Word (codes "wire") ∷ field.Steps scale.grid (pos (10 ^ 36)) ∷ []

-- each constraint of a cycle, in the second version with its path
abbrev pub cycle_forms : Version → (count : ℕ) → List LineForm
cycle_forms First count = replicate count form.Constraint
cycle_forms Second zero = []
cycle_forms Second (suc count) =
    form.Constraint ∷ form.Path ∷ cycle_forms Second count

-- each lead, of which the first version has none
abbrev pub lead_forms : Version → (count : ℕ) → List LineForm
lead_forms version count = map (λ number. form.Lead) (range_with_len 0 (count_in version count))

-- the lines after what shows the period
abbrev pub forms_after : Version → (registers : ℕ) → List LineForm
forms_after version registers = form.Count (codes "registers") registers
    ∷ map form.Register (range_with_len 0 registers) ++ lead_forms version registers
    ++ form.Count (codes "merges") (registers - 1)
    ∷ map form.Merge (range_with_len registers (registers - 1))
    ++ form.Source ∷ form.Count (codes "nodes") (2 * registers - 1)
    ∷ map form.Node (range_with_len 0 (2 * registers - 1)) ++ form.Total ∷ []

-- all lines, with a cycle of so many constraints
abbrev pub forms_of : Version → (cycle registers : ℕ) → List LineForm
forms_of version cycle registers = form.Version ∷ form.Period ∷ form.Show
    ∷ cycle_forms version cycle ++ forms_after version registers
