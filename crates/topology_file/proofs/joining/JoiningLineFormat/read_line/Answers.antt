use Rattle.std.proofs.Common.{inl, sym, ◌∙◌, rules}
use Rattle.cts_model.proofs.EntryLemmas.{written}
use Rattle.topology_file.proofs.TakenLines.{merge_taken, not_open}
use Rattle.topology_file.proofs.joining.JoiningLineFormat.read_line.Goals as goal

pub returns-then-not-has_open-clause-flawed : goal.returns-then-not-has_open-clause-flawed
returns-then-not-has_open-clause-flawed c start earlier has number =
    inl (not_open start.sinks c.args.self.now earlier c.args.line.text.now c.args.line.number has
    number _
    (sym c.words-words.ensures ∙ c.in-Some.ensures.steps) (written c.in-Some.made.now _)
    c.in-Some-due_node.due c.in-Some-due_node.ensures c.in-Some-merge_of.merge
    c.in-Some-merge_of.ensures (search rules))

pub returns-clause-flawless : goal.returns-clause-flawless
returns-clause-flawless c start earlier has number =
    merge_taken start.sinks c.args.self.now earlier c.args.line.text.now c.args.line.number has
    number _
    (sym c.words-words.ensures ∙ c.in-Some.ensures.steps) (written c.in-Some.made.now _)
    c.in-Some-due_node.due c.in-Some-due_node.ensures c.in-Some-merge_of.merge
    c.in-Some-merge_of.ensures (search rules) c.join.new.self c.in_ok-join.ensures
