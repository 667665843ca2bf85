-- Settle as the code does it is Settle as the document says it.
pub mod Losses
pub mod Voids
pub mod Tombstones
pub mod Longest
pub mod Words
pub mod Whole
