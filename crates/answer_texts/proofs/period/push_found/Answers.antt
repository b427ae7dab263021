use Rattle.answer_texts.proofs.CycleRegisters.{shown_among}
use Rattle.answer_texts.proofs.period.push_found.Goals as goal

pub push_show-requires : goal.push_show-requires
push_show-requires c = shown_among _ c.requires.0 _ _ c.requires.1
