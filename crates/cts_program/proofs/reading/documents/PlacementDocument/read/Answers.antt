use Rattle.cts_program.proofs.Vocabulary.{refl, told_ok, problem_of}
use Rattle.place_reader.specs.declared.fault.PlaceFault.TheVariants.{NoMemory}
use Rattle.cts_program.proofs.FileFaults.{unplaced_told}
use Rattle.cts_program.proofs.reading.documents.PlacementDocument.read.Goals as goal

pub invariant_of-result : goal.invariant_of-result
invariant_of-result c =
    let told = rw (c.as_slice-source.ensures, c.as_slice-host.ensures) at c.in-Ok.ensures in
    record {
      valid = problem_of c.args.self.denoted.circuit c.args.self.denoted.tech c.in-Ok.places
          c.args.bytes.now c.requires.ready.acyclic c.requires.ready.kinds c.requires.ready.host
          (told_ok NoMemory _ c.in-Ok.places told);
    }

pub placement_failure-requires : goal.placement_failure-requires
placement_failure-requires c =
    unplaced_told c.args.self.denoted.circuit c.args.self.denoted.tech.source
    c.args.self.denoted.tech.host c.args.bytes.now c.in-Err.fault
    (rw (c.as_slice-source.ensures, c.as_slice-host.ensures) at c.in-Err.ensures)

pub returns-in-Ok-clause-means : goal.returns-in-Ok-clause-means
returns-in-Ok-clause-means c =
    let told = rw (c.as_slice-source.ensures, c.as_slice-host.ensures) at c.in-Ok.ensures in
    (_, refl, refl, refl, told_ok NoMemory _ c.in-Ok.places told)
