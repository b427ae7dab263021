-- What the calls that answer a text answer: what the command of this name prints for what the texts
-- of the call tell, with its status. Fishburn, "Clock Skew Optimization", 1990.
use Rattle.std.specs.Prelude.{◌≡◌, ◌↔◌, ℕ, List}
use Rattle.cts_model.specs.declared.circuit.Circuit.{Circuit}
use Rattle.cts_model.specs.declared.problem.Problem.{Problem}
use Rattle.cts_model.specs.declared.tech.Tech.{Tech}
use Rattle.cts_model.specs.Vocabulary.{HasNoPeriod, JoinsMoreThan}
use Rattle.cts_engine.specs.Accepted.{TellBoth, TellAll}
use Rattle.answer_texts.specs.ScheduleTexts.{IsScheduleText}
use Rattle.answer_texts.specs.SynthTexts.{IsSynthText}

-- a circuit is answered, whose paths don't join too many pairs: with 1 exactly where no period is
-- admitted
pub record IsAnswered (circuit : Circuit) (delays : Tech) (status : ℕ) : Type 0 where
  pub few : JoinsMoreThan circuit 1048576 → ⊥
  pub never : (status ≡ 1) ↔ HasNoPeriod circuit delays

-- two texts tell a circuit and its delays, and the bytes are the text for its least schedule
pub record IsScheduleAnswer (bench tech : List ℕ) (status : ℕ) (text : List ℕ) : Type 0 where
  pub circuit : Circuit
  pub delays : Tech
  pub tell : TellBoth bench tech circuit delays
  pub answered : IsAnswered circuit delays status
  pub is : IsScheduleText circuit delays status text

-- three texts tell a problem, and the bytes are the text for its clock tree
pub record IsTreeAnswer (bench tech pl : List ℕ) (status : ℕ) (text : List ℕ) : Type 0 where
  pub problem : Problem
  pub tell : TellAll bench tech pl problem
  pub answered : IsAnswered problem.circuit problem.tech status
  pub is : IsSynthText problem status text
