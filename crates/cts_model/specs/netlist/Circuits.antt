-- What a circuit keeps, whoever made it: the facts of a sequential netlist, within this project's
-- limits, with or without the host. The host is one more register: primary inputs come from it, and
-- primary outputs go to it.
use Rattle.std.specs.Prelude.{◌≡◌, ◌≢◌, ◌<◌, ◌≤◌, ◌+◌, ℕ, Bool, IsTrue, ◌&&◌, List, length, All, AllPairs, Option, Some, None, if◌then◌else◌, slice_get, codes}
use Rattle.std.specs.List.{enumerate_from, filter_map, sum_by, list_any}
use Rattle.std.specs.Str.{bytes_eq}
use Rattle.cts_model.specs.declared.kind.Kind.TheVariants.{Host}
use Rattle.cts_model.specs.declared.signal.Signal.{Signal}
use Rattle.cts_model.specs.netlist.Kinds.{is_host, is_register, is_gate, is_valid}
use Rattle.cts_model.specs.text.Names.{is_name, is_short}

-- the number of a signal, if it is a register
abbrev pub register_number : ℕ × Signal → Option ℕ
register_number numbered = if is_register numbered.1.kind then Some numbered.0 else None

-- the numbers of the signals that are registers, in order
abbrev pub registers_of : List Signal → List ℕ
registers_of signals = filter_map register_number (enumerate_from 0 signals)

-- how many inputs a signal has as a gate
abbrev pub gate_inputs : Signal → ℕ
gate_inputs signal = if is_gate signal.kind then length signal.fan_in else 0

-- the name of the host, which no netlist can give to a signal
abbrev pub host_name : List ℕ
host_name = codes "(host)"

-- the host captures the primary outputs
abbrev pub host_signal : List ℕ → Signal
host_signal outputs = record { name = host_name; kind = Host; fan_in = outputs }

-- one of the signals is the host
abbrev pub has_host : List Signal → Bool
has_host signals = list_any (λ signal. is_host signal.kind) signals

-- how many signals the host is: one or none
abbrev pub host_count : List Signal → ℕ
host_count signals = if has_host signals then 1 else 0

-- a signal has a name of the format, and the host its own
abbrev pub is_named : Signal → Bool
is_named signal = if is_host signal.kind then bytes_eq signal.name host_name
    else is_name signal.name && is_short signal.name

-- the host is the last signal, and captures the outputs in order
pub record IsHost (signals : List Signal) (outputs : List ℕ) (number : ℕ)
    (signal : Signal) : Type 0 where
  pub last : number + 1 ≡ length signals
  pub captures : signal.fan_in ≡ outputs

pub record IsCircuit (signals : List Signal) (registers outputs : List ℕ) : Type 0 where
  pub names : All (λ signal. IsTrue (is_named signal)) signals
  pub distinct : AllPairs (λ first second. first.name ≢ second.name) signals
  pub valid_inputs : All (λ signal. IsTrue (is_valid signal.kind (length signal.fan_in))) signals
  pub read : All (λ signal. All (λ number. number < length signals) signal.fan_in) signals
  pub host : (number : ℕ) (signal : Signal) → slice_get signals number ≡ Some signal
      → IsTrue (is_host signal.kind) → IsHost signals outputs number signal
  pub registers_are : registers ≡ registers_of signals
  pub some_register : 0 < length registers
  pub outputs_are : All (λ number. number < length signals) outputs
  pub outputs_once : AllPairs (λ first second. first ≢ second) outputs
  -- the limits, in which the host isn't counted
  pub few_signals : length signals ≤ 65536 + host_count signals
  pub few_registers : length registers ≤ 4096 + host_count signals
  pub few_inputs : sum_by gate_inputs signals ≤ 262144
