mod Vocabulary
mod CodeLemmas
mod SparedCycles
mod RatioLemmas
mod MarginLemmas
mod SharingLemmas
