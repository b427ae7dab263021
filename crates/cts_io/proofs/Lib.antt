mod WholeLemmas
mod HeldLemmas
mod TriedLemmas
