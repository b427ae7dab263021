-- What the command `zero` prints.
use Rattle.std.specs.Prelude.{◌≡◌, ℕ, ◌+ℤ◌, ◌-ℤ◌, List, [], ◌∷◌, codes}
use Rattle.answer_texts.specs.Types.{Circuit, Tech, ZeroSkew, Fails, Setup}
use Rattle.cts_model.specs.Vocabulary.{IsZeroSkew, Words, text_of, floor_line, constraint_line}
use Rattle.cts_model.specs.declared.timing.ZeroSkew.TheVariants.{Floor}
use Rattle.answer_texts.specs.PeriodTexts.{zero_line}

-- what shows that no period at equal arrivals is less
abbrev pub reason_line : Circuit → Tech → ZeroSkew → Words
reason_line circuit tech (Fails pair) =
    constraint_line (codes "hold") circuit pair.from pair.to (tech.hold -ℤ pair.least)
reason_line circuit tech (Floor value) = floor_line
reason_line circuit tech (Setup value pair) =
    constraint_line (codes "setup") circuit pair.from pair.to (pair.greatest +ℤ tech.setup)

-- the lines for the least period at equal arrivals
abbrev pub zero_lines : Circuit → Tech → ZeroSkew → List Words
zero_lines circuit tech outcome = zero_line outcome ∷ reason_line circuit tech outcome ∷ []

-- the bytes are the text for the least period of this circuit at equal arrivals
pub record IsZeroText (circuit : Circuit) (tech : Tech) (text : List ℕ) : Type 0 where
  pub outcome : ZeroSkew
  pub least : IsZeroSkew circuit tech outcome
  pub spelled : text ≡ text_of (zero_lines circuit tech outcome)
