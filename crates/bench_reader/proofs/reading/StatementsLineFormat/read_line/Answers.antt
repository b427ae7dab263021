use Rattle.bench_reader.proofs.Vocabulary.{option_map, option_to_list, ◌≡◌, ◌∙◌, ◌+◌, ◌++◌, length, sym, arith, on_ok_weaker, unless_blank}
use Rattle.bench_reader.proofs.SaidLemmas.{said_in-push}
use Rattle.bench_reader.proofs.reading.StatementsLineFormat.read_line.Goals as goal

pub returns-clause-flawless : goal.returns-clause-flawless
returns-clause-flawless c = on_ok_weaker c.keep.result (λ kept start earlier has number.
    let line = c.args.line.text.now in
    let added = c.in_ok-add.ensures earlier line (sym c.in-Some.ensures) has.has number in
    let here : c.args.line.number ≡ 1 + length earlier = omega (arith, number) in (
      added.0,
      record {
        has = added.1;
        said_are = kept
            ∙ (λ i. has.said_are i ++ option_to_list
            (option_map (λ it. (here i, it)) (unless_blank (c.in-Some.ensures i))))
            ∙ sym (said_in-push 1 earlier line);
      },
    )) c.keep.ensures.kept
