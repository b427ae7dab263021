mod Vocabulary
mod RefusalLemmas
mod ResultLemmas
mod StatusLemmas
