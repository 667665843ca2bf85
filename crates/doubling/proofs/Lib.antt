-- Laws of what Double writes.
pub mod Stored
pub mod Loops
pub mod Tabled
pub mod Given
pub mod Ruled
