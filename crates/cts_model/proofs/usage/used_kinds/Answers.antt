use Rattle.cts_model.proofs.KindLemmas.{used_by_each}
use Rattle.cts_model.proofs.usage.used_kinds.Goals as goal

pub returns : goal.returns
returns c = used_by_each _ _ _ _ _ _ _ _ _ c.uses.ensures c.uses-2.ensures c.uses-3.ensures
    c.uses-4.ensures c.uses-5.ensures c.uses-6.ensures c.uses-7.ensures c.uses-8.ensures
