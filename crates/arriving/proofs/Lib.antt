-- Laws of what arrives in the second main.
pub mod Arrivals
pub mod Gathered
pub mod Filled
pub mod Payloads
pub mod Loops
pub mod Whole
