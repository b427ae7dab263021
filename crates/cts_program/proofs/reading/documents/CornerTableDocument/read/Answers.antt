use Rattle.std.proofs.Common.{inl, inr, refl, sym, ◌∙◌, true≢false}
use Rattle.cts_program.proofs.reading.documents.CornerTableDocument.read.Goals as goal

pub returns-then-differs_from_first-clause-refuses :
    goal.returns-then-differs_from_first-clause-refuses
returns-then-differs_from_first-clause-refuses c = inl (inr (
  refl,
  (
    c.in-Ok.tech,
    record {
      used = c.used_kinds.result;
      kinds = c.used_kinds.ensures;
      accepts = c.in-Ok.ensures.ok;
    },
    c.differs_from_first.ensures.yes c.if-differs_from_first.true,
  ),
))

pub returns-clause-means : goal.returns-clause-means
returns-clause-means c = (
  c.in-Ok.tech,
  refl,
  record {
    used = c.used_kinds.result;
    kinds = c.used_kinds.ensures;
    accepts = c.in-Ok.ensures.ok;
  },
  λ differs.
      true≢false (sym (c.differs_from_first.ensures.no differs) ∙ c.if-differs_from_first.false),
)
