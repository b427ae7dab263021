use Rattle.report_text.proofs.Vocabulary.{Bor, List, ℕ, length, ap, arith, nat_tests, length-map}
use Rattle.report_text.proofs.ScanLemmas.{ends_some}
use Rattle.report_text.proofs.scan.Scan.end.Goals as goal

pub returns-else-is_empty-clause-judged : goal.returns-else-is_empty-clause-judged
returns-else-is_empty-clause-judged c circuit =
    let mapped = length-map c.left.result.now (λ (word : Bor (List ℕ)). word.now) in
    let left = ap (λ (words : List (List ℕ)). length words) c.left.ensures in
    ends_some circuit c.args.self.now
    (grind (arith, nat_tests, c.if-is_empty.ensures, mapped, left))
