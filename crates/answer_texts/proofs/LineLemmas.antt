-- A line of a constraint.
use Rattle.answer_texts.proofs.Vocabulary.{◌≡◌, ◌++◌, ℕ, ℤ, List, Result, OnOk, subst, Circuit, line_of, constraint_line}

-- a line was appended, whose weight is this number
pub weight_line : {T E : Type 0} (result : Result T E) (before now word : List ℕ)
    (circuit : Circuit) (launch capture : ℕ) (weight other : ℤ)
    → OnOk result (now ≡ before ++ line_of (constraint_line word circuit launch capture weight))
    → weight ≡ other → OnOk result
    (now ≡ before ++ line_of (constraint_line word circuit launch capture other))
weight_line result before now word circuit launch capture weight other appended same =
    subst (λ w. OnOk result
    (now ≡ before ++ line_of (constraint_line word circuit launch capture w))) same appended
