use Rattle.cts_program.proofs.Vocabulary.{inl, inr, refl, ap, ReadFault, TooLong}
use Rattle.cts_program.proofs.ReadLemmas.{long_file}
use Rattle.cts_program.proofs.reading.document.read_document.Goals as goal

pub returns-in-Err-Failed-clause-step : goal.returns-in-Err-Failed-clause-step
returns-in-Err-Failed-clause-step g c = record {
  files = λ i file. c.read_whole.ensures.files file i;
  counts = λ none. absurd (none c.file_kind-kind.result refl);
  gives = tt;
  fails = inl (inr (
    ap ReadFault c.file_kind-kind.ensures,
    rw c.in-Err-Failed.field-0-is at c.in-Err-Failed.ensures.failed refl,
  ));
}

pub returns-in-Err-TooLong-clause-step : goal.returns-in-Err-TooLong-clause-step
returns-in-Err-TooLong-clause-step g c =
    let (bytes, denoted, long) = long_file _
    (rw c.in-Err-TooLong.field-0-is at c.in-Err-TooLong.ensures.too_long refl) in
    record {
      files = λ i file. c.read_whole.ensures.files file i;
      counts = λ none i file.
          (rw c.in-Err-TooLong.field-0-is at c.in-Err-TooLong.ensures.stays) (λ e. cc e) file i;
      gives = tt;
      fails = inl (inl (record {
        bytes = bytes;
        denoted = denoted;
        refused = inl (ap TooLong c.file_kind-kind.ensures, long);
      }));
    }
