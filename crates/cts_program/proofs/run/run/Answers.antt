use Rattle.cts_program.proofs.Vocabulary.{◌≡◌, map, string_bytes, inl, sym, ◌∙◌, subst, arith, ap, ReadFault, WriteFault, FileKind, status_of, ending_status, IsStatusOf, DenotesText}
use Rattle.cts_program.proofs.OneDocument.{ReportLaws}
use Rattle.cts_program.proofs.RunLemmas.{two_is_usage, usage_is_two, refusal_given, four_is_unread, five_is_unwritten, refused_status, accepted_status, lacks_text, denoted_status, denoted_never, denoted_found, denoted_fine, done_status, not_two, no_ending, fault_status}
use Rattle.cts_program.proofs.SameRequests.{one_request}
use Rattle.cts_program.proofs.run.run.Goals as goal

pub returns-in-Ok-clause-usage : goal.returns-in-Ok-clause-usage
returns-in-Ok-clause-usage g c =
    let ends = c.in-Ok.ensures.done in (
      λ two. absurd (not_two c.in-Ok.ending (sym c.status.ensures ∙ two)),
      λ none. absurd (none ends.ask.command ends.ask.means),
    )

pub returns-in-Ok-clause-given : goal.returns-in-Ok-clause-given
returns-in-Ok-clause-given g c request contents ask denoted =
    let holds = g.I.Inputs.holds c.args.inputs.now in
    let ends = c.in-Ok.ensures.done in
    let same = one_request (map string_bytes c.args.words.now) ends.request request ends.ask ask in
    let denotes = subst (λ r. DenotesText holds r (ending_status c.in-Ok.ending) ends.text) same
    ends.denotes in
    let laws : ReportLaws = record {
      one_report = c.one_report.ensures;
      one_fault = c.faults.ensures.one;
      no_fault = c.faults.ensures.none;
    } in
    record {
      only = λ other text start answer is whole. c.status.ensures
          ∙ denoted_status laws holds request contents denoted _ ends.text denotes other text
          answer;
      never = λ all one. denoted_never laws holds request contents denoted _ ends.text denotes all
          (sym c.status.ensures ∙ one);
      found = λ none done. denoted_found laws holds request contents denoted _ ends.text denotes
          none
          (sym c.status.ensures ∙ done);
      refused = λ failure refusal. absurd (denoted_fine laws holds request contents denoted _
          ends.text denotes failure refusal);
      complete = λ accepted read wrote. inl (subst (IsStatusOf request.form)
          (sym c.status.ensures) (done_status holds request c.in-Ok.ending ends.text denotes));
    }

pub returns-in-Err-clause-usage : goal.returns-in-Err-clause-usage
returns-in-Err-clause-usage g c =
    let laws : ReportLaws = record {
      one_report = c.one_report.ensures;
      one_fault = c.faults.ensures.one;
      no_fault = c.faults.ensures.none;
    } in
    rw c.status-in-Err.ensures (
      two_is_usage laws (map string_bytes c.args.words.now) (g.I.Inputs.holds c.args.inputs.now) _ _
          _ _ _ _ c.in-Err.failure c.in-Err.ensures.cause,
      usage_is_two laws (map string_bytes c.args.words.now) (g.I.Inputs.holds c.args.inputs.now) _ _
          _ _ _ _ c.in-Err.failure c.in-Err.ensures.cause,
    )

pub returns-in-Err-clause-given : goal.returns-in-Err-clause-given
returns-in-Err-clause-given g c request contents ask denoted =
    let words = map string_bytes c.args.words.now in
    let holds = g.I.Inputs.holds c.args.inputs.now in
    let laws : ReportLaws = record {
      one_report = c.one_report.ensures;
      one_fault = c.faults.ensures.one;
      no_fault = c.faults.ensures.none;
    } in
    rw c.status-in-Err.ensures (record {
      only = λ other text start answer is whole. absurd (lacks_text laws words holds _ _ _ _ _ _
          c.in-Err.failure c.in-Err.ensures.cause request ask contents denoted other text start
          answer c.in-Err.ensures.kept is whole);
      never = λ all one. absurd (no_ending c.in-Err.failure 1 one (omega arith));
      found = λ none done. no_ending c.in-Err.failure 0 done (omega arith);
      refused = refused_status laws words holds _ _ _ _ _ _ c.in-Err.failure c.in-Err.ensures.cause
          request ask contents denoted;
      complete = accepted_status laws words holds _ _ _ _ _ _ c.in-Err.failure
          c.in-Err.ensures.cause request ask contents denoted;
    })

pub returns-in-Err-clause-counts : goal.returns-in-Err-clause-counts
returns-in-Err-clause-counts g c = rw c.status-in-Err.ensures (record {
  read = λ file more. fault_status c.in-Err.failure 4
      ((kind : FileKind) × (c.in-Err.failure ≡ ReadFault kind)) (λ (kind, is). ap status_of is)
      (g.I.Inputs.faults c.args.inputs.now file) (g.I.Inputs.faults c.write_answer.new.inputs file)
      (λ none. c.in-Err.ensures.reads (λ kind e. none (kind, cc e)) file) more;
  written = λ more. fault_status c.in-Err.failure 5 (c.in-Err.failure ≡ WriteFault)
      (λ is. ap status_of is) (g.O.Sink.faults c.args.out.now)
      (g.O.Sink.faults c.write_answer.new.out)
      (λ none. c.in-Err.ensures.writes (λ e. none (cc e))) more;
})

pub returns-in-Err-clause-write_fault : goal.returns-in-Err-clause-write_fault
returns-in-Err-clause-write_fault g c five =
    let (part, rose) = five_is_unwritten (record {
      one_report = c.one_report.ensures;
      one_fault = c.faults.ensures.one;
      no_fault = c.faults.ensures.none;
    }) (map string_bytes c.args.words.now)
    (g.I.Inputs.holds c.args.inputs.now) _ _ _ _ _ _ c.in-Err.failure
    c.in-Err.ensures.cause (sym c.status-in-Err.ensures ∙ five) in
    (rose, part)

pub returns-in-Err-clause-read_fault : goal.returns-in-Err-clause-read_fault
returns-in-Err-clause-read_fault g c four =
    four_is_unread (record {
      one_report = c.one_report.ensures;
      one_fault = c.faults.ensures.one;
      no_fault = c.faults.ensures.none;
    }) (map string_bytes c.args.words.now)
    (g.I.Inputs.holds c.args.inputs.now) _ _ _ _ _ _ c.in-Err.failure
    c.in-Err.ensures.cause (sym c.status-in-Err.ensures ∙ four)

pub returns-in-Err-clause-refused : goal.returns-in-Err-clause-refused
returns-in-Err-clause-refused g c =
    rw c.status-in-Err.ensures (refusal_given (record {
      one_report = c.one_report.ensures;
      one_fault = c.faults.ensures.one;
      no_fault = c.faults.ensures.none;
    }) (map string_bytes c.args.words.now) (g.I.Inputs.holds c.args.inputs.now) _ _ _ _ _ _
    c.in-Err.failure c.in-Err.ensures.cause)
