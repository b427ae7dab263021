mod LineLemmas
mod LineLengths
