-- The words of a list of bytes.
pub mod Words
