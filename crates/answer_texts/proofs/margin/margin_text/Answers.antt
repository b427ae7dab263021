use Rattle.answer_texts.proofs.margin.margin_text.Goals as goal

pub push_spared-requires-clause-outcome : goal.push_spared-requires-clause-outcome
push_spared-requires-clause-outcome c =
    (c.requires.outcome.0, (c.args.period, c.requires.outcome.1))
