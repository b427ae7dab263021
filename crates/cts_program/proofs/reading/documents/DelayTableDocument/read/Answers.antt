use Rattle.cts_engine.proofs.HostedLoops.{acyclic_hosted}
use Rattle.cts_program.proofs.reading.documents.DelayTableDocument.read.Goals as goal

pub returns-clause-keeps : goal.returns-clause-keeps
returns-clause-keeps c =
    let told = c.in_ok-accept_table.ensures in
    record {
      acyclic = acyclic_hosted c.in_ok-accept_table.field-0.tech c.args.self.circuit
          c.in_ok-accept_table.field-0.circuit c.requires.ready.acyclic told.hosted;
      kinds = told.kinds;
      host = told.host;
    }
