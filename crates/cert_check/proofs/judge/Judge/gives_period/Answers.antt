-- Of the floor.
use Rattle.cert_check.proofs.Vocabulary.{◌∙◌, sym, rules, arith, w128, ints, to_z-of_z}
use Rattle.cert_check.proofs.judge.Judge.gives_period.Goals as goal

pub returns-then-num-self : goal.returns-then-num-self
returns-then-num-self c =
    let den = to_z-of_z w128 c.den.result (record { sfits = c.den.type_inv })
    ∙ c.den.ensures.value in
    rw c.in-Floor.is (
      λ test. record {
        value = search (arith, rules, ints, to_z-of_z);
        whole = sym den ∙ c.are_same.ensures.0 test;
      },
      λ floor. c.are_same.ensures.1 (den ∙ floor.whole),
    )
