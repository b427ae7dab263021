-- The product is small, so the code's is the same.
use Rattle.safety_margin.proofs.Vocabulary.{◌^◌, subst, sym, IsBelow}
use Rattle.safety_margin.proofs.CodeLemmas.{product_read, product_small}
use Rattle.safety_margin.proofs.sparing.product.Goals as goal

pub returns-clause-value : goal.returns-clause-value
returns-clause-value c = product_read c.args.a c.args.b c.requires.a c.requires.b

pub returns-clause-small : goal.returns-clause-small
returns-clause-small c = subst (IsBelow (2 ^ 105))
    (sym (product_read c.args.a c.args.b c.requires.a c.requires.b))
    (product_small c.args.a c.args.b c.requires.a c.requires.b)
