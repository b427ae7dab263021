-- What a cycle of a circuit's constraints names are registers of the circuit.
use Rattle.answer_texts.proofs.Vocabulary.{List, length, All, All-weaker, Fraction, Circuit, Constraint, PeriodShow, Cycle, Floor, Tech, IsConstraintOf, IsPeriodShow, IsBetweenRegisters, ShowsPeriodAmong, tail_within, head_within}

module _ (circuit : Circuit) (tech : Tech) where
  -- constraints of the circuit lead between its registers
  pub cycle_among : (cycle : List Constraint) → All (IsConstraintOf circuit tech) cycle
      → All (IsBetweenRegisters (length circuit.registers)) cycle
  cycle_among cycle of_circuit =
      All-weaker (IsConstraintOf circuit tech) (IsBetweenRegisters (length circuit.registers))
      (λ constraint its. record {
        tail = tail_within circuit tech constraint its;
        head = head_within circuit tech constraint its;
      }) cycle of_circuit

  -- and so it is with what shows its period
  pub shown_among : (period : Fraction) (shown : PeriodShow)
      → IsPeriodShow circuit tech period shown → ShowsPeriodAmong (length circuit.registers) shown
  shown_among period (Cycle cycle) shows = cycle_among cycle shows.of_circuit
  shown_among period Floor shows = tt
