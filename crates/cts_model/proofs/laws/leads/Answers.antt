use Rattle.cts_model.proofs.LeadLemmas.{led_arrivals_are_least}
use Rattle.cts_model.proofs.laws.leads.Goals as goal

pub returns : goal.returns
returns c = record { least = led_arrivals_are_least }
