-- What is read of a script.
pub mod Passed
