-- Laws of single places of the annex directory.
pub mod Loops
