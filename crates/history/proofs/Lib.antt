-- Demand 3, proved.
pub mod Strings
pub mod Abstract
pub mod Bridge
pub mod Hashes
pub mod Splits
pub mod Seen
pub mod Settles
pub mod Doubles
pub mod Steps
pub mod Counts
pub mod Demand3
pub mod Example
