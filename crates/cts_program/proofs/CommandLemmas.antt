-- What a command comes to whose files are read, and a demonstration, which reads none.
use Rattle.cts_program.proofs.Vocabulary.{ℕ, inl, inr, List, [], Option, Result, Ok, Err, IfOk, IfErr, refl, Bor, Problem, Demo, Answer, ending_status, Failure, IsUnshown, RefusesTold, IsAnswer, IsRefusal, request_of, DenotesText, Stops, refused, wants_memory, OrMemory, IsStep, reported}
use Rattle.cts_model.specs.declared.report.Report.{Report}
use Rattle.command_line.specs.declared.table.Form.TheVariants as forms

-- a report that isn't shown is refused though it is read
pub check_fails : (problem : Problem) (report : Report) (failure : Failure)
    → OrMemory (IsUnshown forms.Check (reported problem report)) failure
    → OrMemory (RefusesTold forms.Check (reported problem report)) failure
check_fails problem report failure (inl unshown) = inl (inr unshown)
check_fails problem report failure (inr memory) = inr memory

-- a demonstration is answered, or refused, with no file
pub demo_step : {holds : List ℕ → Option (List ℕ)} {reads : List ℕ → ℕ}
    (registers seed : Bor (List ℕ)) (result : Result Answer Failure)
    → IfOk result (λ answer. IsAnswer (request_of (Demo registers seed)) []
    (ending_status answer.ending) answer.text.items)
    → IfErr result (OrMemory (IsRefusal (request_of (Demo registers seed)) []))
    → IsStep holds holds reads reads (λ answer. DenotesText holds (request_of (Demo registers seed))
    (ending_status answer.ending) answer.text.items)
    (Stops holds reads reads (request_of (Demo registers seed))) result
unfolding request_of
demo_step registers seed (Ok answer) says fails = record {
  files = refl;
  counts = λ none. refl;
  gives = record { contents = []; are = tt; answer = says };
  fails = tt;
}
demo_step registers seed (Err failure) says (inl refusal) = record {
  files = refl;
  counts = λ none. refl;
  gives = tt;
  fails = refused (record { contents = []; are = tt; refusal = refusal });
}
demo_step registers seed (Err failure) says (inr memory) = record {
  files = refl;
  counts = λ none. refl;
  gives = tt;
  fails = wants_memory memory;
}
