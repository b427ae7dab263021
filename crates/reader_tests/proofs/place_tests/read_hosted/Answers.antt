use Rattle.std.proofs.Common.{◌≡◌, length, sym, ap, ◌∙◌, arith, true≢false}
use Rattle.std.proofs.lemmas.Bool.Decides.{nat_tests}
use Rattle.cts_model.proofs.HostedCircuits.{has_host-with_host}
use Rattle.reader_tests.proofs.place_tests.read_hosted.Goals as goal

pub read_places-requires-clause-host : goal.read_places-requires-clause-host
read_places-requires-clause-host g c = (
  λ none.
      let empty : length c.args.host.now ≡ 0 = ap length (sym c.as_bytes-3.ensures.value ∙ none) in
      absurd (grind (arith, nat_tests)),
  λ hostless.
      let hosted = rw c.made-circuit.ensures at c.with_host.ensures in
      absurd (true≢false (sym (has_host-with_host c.made.result c.made-circuit.result hosted)
      ∙ hostless)),
)
