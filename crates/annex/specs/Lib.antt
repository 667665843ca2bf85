-- The stored mother hashes, as the directory and the words of the annex have them.
pub mod Stored
