use Rattle.answer_texts.proofs.CycleRegisters.{cycle_among}
use Rattle.answer_texts.proofs.answer.Answer.never.Goals as goal

pub push_cycle-requires : goal.push_cycle-requires
push_cycle-requires c = cycle_among _ c.requires.0 _ c.requires.1.of_circuit
