-- Laws of the counts.
pub mod Blocks
pub mod Pairs
