-- The laws of the searches in a run: what is found, and the walk over its entries.
pub mod Finds
pub mod Scans
pub mod Rests
