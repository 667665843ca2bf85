-- The annex directory.
pub mod Places
