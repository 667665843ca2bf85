-- The layout of a table of words, and what the moves of the code do to it.
pub mod Machine
pub mod Decode
pub mod Document
pub mod Moves
pub mod Reading
pub mod Bytes
