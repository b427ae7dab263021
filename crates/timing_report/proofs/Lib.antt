mod Vocabulary
mod MostDelayedPairs
mod ListedPeriods
mod PairListLemmas
mod SlackLemmas
