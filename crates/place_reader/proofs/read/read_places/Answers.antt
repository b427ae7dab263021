use Rattle.place_reader.proofs.Vocabulary.{inl, inr, sym, ap, ◌∙◌, Err, err_from_is_err_and, NoMemory, kept_at, with_source}
use Rattle.cts_base.proofs.Told.{told_err, told_ok}
use Rattle.place_reader.proofs.ToldPlaces.{kept_told, line_refused}
use Rattle.place_reader.proofs.read.read_places.Goals as goal

pub returns-in_err-read_lines : goal.returns-in_err-read_lines
returns-in_err-read_lines c =
    let p = err_from_is_err_and c.from_residual-in_err-read_lines.result
    c.from_residual-in_err-read_lines.ensures.1 in
    rw (p.1, p.2)
    (elim c.in_err-read_lines.ensures.flawed [
      | inl found ↦ inl (sym (line_refused c.args.bytes.now c.args.circuit.now c.args.source.now
          c.args.host.now c.in_ok-placing.placing.wanted c.in_ok-placing.ensures.0 _ found))
      | inr memory ↦ inr (ap Err memory)
    ])

pub returns-in_err-registers : goal.returns-in_err-registers
returns-in_err-registers c =
    let p = err_from_is_err_and c.from_residual-in_err-registers.result
    c.from_residual-in_err-registers.ensures.1 in
    let told = kept_told c.args.bytes.now c.args.circuit.now c.args.source.now
    c.args.host.now c.in_ok-placing.placing.wanted c.in_ok-placing.ensures.0
    (kept_at c.read_lines.new.format)
    c.in_ok-read_lines.ensures.flawless c.in_ok-read_lines.ensures.read.places in
    rw (p.1, p.2)
    (elim (told_err NoMemory _ _ c.in_err-registers.ensures) [
      | inl found ↦ inl (sym (told ∙ ap (λ points. with_source points
          (kept_at c.read_lines.new.format c.args.source.now)) found))
      | inr memory ↦ inr (ap Err memory)
    ])

pub returns-in_default : goal.returns-in_default
returns-in_default c =
    let told = kept_told c.args.bytes.now c.args.circuit.now c.args.source.now
    c.args.host.now c.in_ok-placing.placing.wanted c.in_ok-placing.ensures.0
    (kept_at c.read_lines.new.format)
    c.in_ok-read_lines.ensures.flawless c.in_ok-read_lines.ensures.read.places in
    let points = told_ok NoMemory _ _ c.in_ok-registers.ensures in
    inl (sym (told ∙ (λ i. with_source (points i) (sym c.in_default.ensures i))))

pub returns : goal.returns
returns c =
    let told = kept_told c.args.bytes.now c.args.circuit.now c.args.source.now
    c.args.host.now c.in_ok-placing.placing.wanted c.in_ok-placing.ensures.0
    (kept_at c.read_lines.new.format)
    c.in_ok-read_lines.ensures.flawless c.in_ok-read_lines.ensures.read.places in
    let points = told_ok NoMemory _ _ c.in_ok-registers.ensures in
    inl (sym (told ∙ (λ i. with_source (points i) (sym c.in-Some.ensures i))))
