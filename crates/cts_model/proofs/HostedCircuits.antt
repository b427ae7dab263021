-- A circuit with the host has it.
use Rattle.cts_model.proofs.Vocabulary.{◌≡◌, true, [], ◌∷◌, ap, ◌∙◌, list_any-append, Circuit, is_host, has_host, host_signal, IsWithHost}
use Rattle.std.proofs.Math.Bool.{or-true}

-- one of its signals is the host
pub has_host-with_host : (circuit hosted : Circuit) → IsWithHost circuit hosted
    → has_host hosted.signals ≡ true
has_host-with_host circuit hosted is =
    ap has_host is.signals ∙ list_any-append (λ signal. is_host signal.kind) circuit.signals
    (host_signal circuit.outputs ∷ []) ∙ or-true (has_host circuit.signals)
