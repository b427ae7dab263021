mod Vocabulary
mod HeldForOthers
mod OnceSet
