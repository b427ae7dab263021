use Rattle.std.proofs.Common.{◌≡◌, ◌+◌, ◌++◌, ◌∙◌, length, take, arith}
use Rattle.std.proofs.lemmas.Grind.{common_steps}
use Rattle.cts_io.proofs.WholeLemmas.{Takes-leaves, Takes-next, Takes-nothing}
use Rattle.cts_io.proofs.whole.read_whole.Goals as goal

pub loop-taken-preserved : goal.loop-taken-preserved
loop-taken-preserved g c =
    let i = c.loop-taken.invariant in
    let grown : c.extend_from_slice.new.self.items
    ≡ c.loop-taken.bytes.items ++ take c.in-Ok.taken c.take.new.into =
    grind (arith, common_steps) in
    record {
      within = grind (arith, common_steps);
      denoted = λ held is.
          let t = i.denoted held is in
          Takes-next _ _ _ _ _ _ _ t.2 (c.in-Ok.ensures.ok _ t.1) grown;
      files = λ file. c.in-Ok.ensures.files file ∙ i.files file;
      stays = λ file. c.in-Ok.ensures.stays file ∙ i.stays file;
    }

pub returns-then-taken-eq0-clause-rest : goal.returns-then-taken-eq0-clause-rest
returns-then-taken-eq0-clause-rest g c held is =
    let none : c.in-Ok.taken ≡ 0 = grind (arith, common_steps) in
    Takes-nothing _ _ _ _ (c.in-Ok.ensures.ok _ (c.loop-taken.invariant.denoted held is).1) none

pub returns-then-limit-len-clause-stops : goal.returns-then-limit-len-clause-stops
returns-then-limit-len-clause-stops g c long held is =
    let t = c.loop-taken.invariant.denoted held is in
    let all : length c.loop-taken.bytes.items + c.in-Ok.taken ≡ c.args.limit + 1 =
    grind (arith, common_steps) in
    Takes-leaves _ _ _ _ _ _ _ t.2 (c.in-Ok.ensures.ok _ t.1) all

pub returns-then-limit-len-clause-too_long : goal.returns-then-limit-len-clause-too_long
returns-then-limit-len-clause-too_long g c = grind (arith, common_steps)
