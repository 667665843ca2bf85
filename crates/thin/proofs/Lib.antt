-- The laws of Query on bytes.
pub mod Bytes
