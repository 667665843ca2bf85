-- Laws of the annex directory.
pub mod Front
pub mod Laws
pub mod Loops
