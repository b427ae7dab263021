-- Steps of a command, one after the other, and its answer at the end.
use Rattle.cts_program.proofs.Vocabulary.{ℕ, ◌≡◌, ◌≢◌, inl, inr, List, ◌++◌, Option, Result, Ok, Err, IfOk, IfErr, IsErrOf, refl, ap, sym, ◌∙◌, subst, length-map, Circuit, Tech, Command, Form, command_form, Given, options_of, Answer, ending_status, Failure, FileKind, kinds_in, kinds_for, texts_for, Tells, JoinTooMany, RefusesTold, IsText, Tell, RefusesFirst, NamedFile, Request, files_of, request_of, Stops, refused, unread, wants_memory, OrMemory, IsStep, IsServed, AreRead, AreUnread, FailsCircuit, Told, nothing, TellsCircuit, TellsTech, IsTimedSo}
use Rattle.cts_model.specs.Vocabulary.{JoinsMoreThan}
use Rattle.command_line.specs.declared.table.Form.TheVariants as forms
use Rattle.failure_lines.specs.declared.failure.Failure.TheVariants as failures
use Rattle.cts_program.proofs.DocumentLists.{length-tell}
use Rattle.cts_program.proofs.OneDocument.{one_circuit}
use Rattle.cts_program.proofs.ReadLemmas.{unread_before}
use Rattle.cts_program.proofs.ResultLemmas.{if_ok_from, if_err_from}

-- ---- steps

module _ {Value : Type 0} {holds holds_now : List ℕ → Option (List ℕ)} {reads reads_now : List ℕ →
    ℕ}
    {Gives : Value → Type 0} {Fails : Failure → Type 0} where
  -- a step of which more is known
  pub step_from : {Others : Value → Type 0} {Causes : Failure → Type 0}
      (result : Result Value Failure) → IsStep holds holds_now reads reads_now Gives Fails result
      → ((value : Value) → Gives value → Others value)
      → ((failure : Failure) → Fails failure → Causes failure)
      → IsStep holds holds_now reads reads_now Others Causes result
  step_from (Ok value) step gives fails = record {
    files = step.files;
    counts = step.counts;
    gives = gives value step.gives;
    fails = tt;
  }
  step_from (Err failure) step gives fails = record {
    files = step.files;
    counts = step.counts;
    gives = tt;
    fails = fails failure step.fails;
  }

  -- a step that fails ends all that begins with it
  pub step_fails : {Last : Type 0} {Others : Last → Type 0} {Causes : Failure → Type 0}
      (failure : Failure) → IsStep holds holds_now reads reads_now Gives Fails (Err failure)
      → (Fails failure → Causes failure)
      → IsStep {Value = Last} holds holds_now reads reads_now Others Causes (Err failure)
  step_fails {Last} failure step fails = record {
    files = step.files;
    counts = λ none. step.counts (λ kind is. none kind (at kind is));
    gives = tt;
    fails = fails step.fails;
  }
    where
      at : (kind : FileKind)
          → IsErrOf {T = Value} {E = Failure} (Err failure) (failures.ReadFault kind)
          → IsErrOf {T = Last} {E = Failure} (Err failure) (failures.ReadFault kind)
      at kind is = ap (λ f. Err f) (cc is)

  -- after one that succeeds no count rose
  pub step_counts : (value : Value)
      → IsStep holds holds_now reads reads_now Gives Fails (Ok value) → reads_now ≡ reads
  step_counts value step = step.counts (λ kind is. cc is)

-- ---- circuits

-- pairs that are too many for a circuit are so for a command that is told it
module _ (form : Form) (told : Told) (circuit : Circuit) (tells : TellsCircuit told circuit) where
  pub few_told : (JoinsMoreThan circuit 1048576 → ⊥) → JoinTooMany form told → ⊥
  few_told few = at form
    where
      at : (form : Form) → JoinTooMany form told → ⊥
      at forms.Check many = many
      at form (other, tells', many) =
          few (subst (λ c. JoinsMoreThan c 1048576) (one_circuit told other circuit tells' tells)
          many)

  many_told : form ≢ forms.Check → JoinsMoreThan circuit 1048576 → JoinTooMany form told
  many_told other many = at form other
    where
      at : (form : Form) → form ≢ forms.Check → JoinTooMany form told
      at forms.Check other = absurd (other refl)
      at form other = (circuit, tells, many)

  -- so a circuit's failure is the command's
  pub circuit_fails : form ≢ forms.Check → (failure : Failure) → FailsCircuit circuit failure
      → OrMemory (RefusesTold form told) failure
  circuit_fails other failures.Pairs many = inl (inl (refl, many_told other many))
  circuit_fails other failures.NoMemory fails = inr refl
  circuit_fails other failure fails = absurd fails

-- memory may run out for every circuit
pub memory_fails : (circuit : Circuit) (failure : Failure) → failure ≡ failures.NoMemory
    → FailsCircuit circuit failure
memory_fails circuit failure is = subst (FailsCircuit circuit) (sym is) tt

-- ---- the answer

-- what a command goes by are its files
record IsByFiles (request : Request) : Type 0 where
  kinds : kinds_for request.form request.files ≡ kinds_in request.files
  texts : (contents : List (List ℕ)) → texts_for request.form request.given contents ≡ contents

-- so it is where it is no demonstration
by_files : (form : Form) (given : List Given) (files : List NamedFile) → form ≢ forms.Demo
    → IsByFiles (record { form = form; given = given; files = files })
by_files forms.Demo given files other = absurd (other refl)
by_files form given files other = record { kinds = refl; texts = λ contents. refl }

module _ (command : Command) (by_name : command_form command ≢ forms.Demo) where
  abbrev asked : Request
  asked = request_of command

  by : IsByFiles asked
  unfolding request_of
  by = by_files (command_form command) (options_of command) (files_of command) by_name

  module _ {holds : List ℕ → Option (List ℕ)} where
    -- files that tell something tell it to the command
    tells_all : {told : Told} (read : AreRead holds asked.files told)
        → Tells asked read.contents told
    tells_all {told} read = record {
      all = length-tell (kinds_in asked.files) nothing read.contents told read.tell
          ∙ length-map asked.files _;
      tell = subst (λ kinds. Tell kinds nothing (texts_for asked.form asked.given read.contents)
          told) (sym by.kinds)
          (subst (λ texts. Tell (kinds_in asked.files) nothing texts told)
          (sym (by.texts read.contents)) read.tell);
    }

    -- files that aren't read stop it
    pub reading_stops : (reads reads_now : List ℕ → ℕ) (failure : Failure)
        → AreUnread holds reads reads_now (files_of command) failure
        → Stops holds reads reads_now asked failure
    unfolding request_of
    reading_stops reads reads_now failure (inl (inl last)) = refused (record {
      contents = last.contents;
      are = last.are;
      refusal = inl (subst (λ kinds. RefusesFirst kinds nothing
          (texts_for asked.form asked.given last.contents) failure) (sym by.kinds)
          (subst (λ texts. RefusesFirst (kinds_in asked.files) nothing texts failure)
          (sym (by.texts last.contents)) last.refused));
    })
    reading_stops reads reads_now failure (inl (inr (kind, is, cannot))) = unread kind is cannot
    reading_stops reads reads_now failure (inr memory) = wants_memory memory

    module _ {told : Told} (read : AreRead holds asked.files told) where
      -- so does what refuses what they tell
      told_stops : (reads reads_now : List ℕ → ℕ) (failure : Failure)
          → OrMemory (RefusesTold asked.form told) failure
          → Stops holds reads reads_now asked failure
      told_stops reads reads_now failure (inl refuses) = refused (record {
        contents = read.contents;
        are = read.are;
        refusal = inr (told, tells_all read, refuses);
      })
      told_stops reads reads_now failure (inr memory) = wants_memory memory

      -- and a text for it is the answer
      pub answered : {holds_now : List ℕ → Option (List ℕ)} {reads reads_now : List ℕ → ℕ}
          (result : Result Answer Failure) → holds_now ≡ holds → reads_now ≡ reads
          → IfOk result (λ answer. JoinTooMany asked.form told → ⊥)
          → IfOk result (λ answer. IsText asked.form asked.given told
          (ending_status answer.ending) answer.text.items)
          → IfErr result (OrMemory (RefusesTold asked.form told))
          → IsServed holds holds_now reads reads_now asked result
      answered (Ok answer) files counts few says fails = record {
        files = files;
        counts = λ none. counts;
        gives = record {
          contents = read.contents;
          are = read.are;
          answer = record { told = told; tells = tells_all read; few = few; says = says };
        };
        fails = tt;
      }
      answered {reads = reads} {reads_now = reads_now} (Err failure) files counts few says fails =
          record {
            files = files;
            counts = λ none. counts;
            gives = tt;
            fails = told_stops reads reads_now failure fails;
          }

  module _ {holds holds_now : List ℕ → Option (List ℕ)} {reads reads_now : List ℕ → ℕ} where
    -- files that aren't read end the command
    pub reading_fails : {Value : Type 0} {Gives : Value → Type 0} (files more : List NamedFile)
        → files_of command ≡ files ++ more → (failure : Failure)
        → IsStep holds holds_now reads reads_now Gives (AreUnread holds reads reads_now files)
        (Err failure) → IsServed holds holds_now reads reads_now asked (Err failure)
    reading_fails files more are failure step =
        step_fails failure step (λ unread. reading_stops reads reads_now failure
        (subst (λ fs. AreUnread holds reads reads_now fs failure) (sym are)
        (unread_before holds reads reads_now files more failure unread)))

    -- after those that are read the answer is one for the circuit that they tell
    pub answered_circuit : {told : Told} (circuit : Circuit) (result : Result Answer Failure)
        → AreRead holds asked.files told → holds_now ≡ holds → reads_now ≡ reads
        → TellsCircuit told circuit → asked.form ≢ forms.Check
        → IfOk result (λ answer. JoinsMoreThan circuit 1048576 → ⊥)
        → IfOk result (λ answer. IsText asked.form asked.given told
        (ending_status answer.ending) answer.text.items) → IfErr result (FailsCircuit circuit)
        → IsServed holds holds_now reads reads_now asked result
    answered_circuit {told} circuit result read files counts tells other few says fails =
        answered read result files counts
        (if_ok_from result _ _ _ few few (λ answer none none'. few_told asked.form told circuit
        tells none)) says
        (if_err_from result _ _ fails (circuit_fails asked.form told circuit tells other))

-- ---- what is told

-- what is said of a circuit and its delays is said of what tells them
pub says_timed : (Says : Circuit → Tech → ℕ → List ℕ → Type 0) (told : Told) (circuit : Circuit)
    (tech : Tech) (result : Result Answer Failure) → TellsCircuit told circuit → TellsTech told tech
    → IfOk result (λ answer. Says circuit tech (ending_status answer.ending) answer.text.items)
    → IfOk result (λ answer. IsTimedSo told (λ circuit tech.
    Says circuit tech (ending_status answer.ending) answer.text.items))
says_timed Says told circuit tech (Ok answer) tells delays says =
    record { circuit = circuit; tech = tech; tells = tells; delays = delays; holds = says }
says_timed Says told circuit tech (Err failure) tells delays says = tt

-- beside a status
pub says_done : (Says : Circuit → Tech → List ℕ → Type 0) (told : Told) (circuit : Circuit)
    (tech : Tech) (result : Result Answer Failure) → TellsCircuit told circuit → TellsTech told tech
    → IfOk result (λ answer. (ending_status answer.ending ≡ 0)
    × Says circuit tech answer.text.items)
    → IfOk result (λ answer. (ending_status answer.ending ≡ 0) × IsTimedSo told (λ circuit tech.
    Says circuit tech answer.text.items))
says_done Says told circuit tech (Ok answer) tells delays (done, says) = (
  done,
  record { circuit = circuit; tech = tech; tells = tells; delays = delays; holds = says },
)
says_done Says told circuit tech (Err failure) tells delays says = tt
