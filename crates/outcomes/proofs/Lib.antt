pub mod JoiningCycles
