-- The three demands as theorems, and that contracts determine their outcomes.
pub mod Demand1
pub mod Demand2
pub mod Demand3
pub mod Agree
