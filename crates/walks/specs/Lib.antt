-- Words on a table that the contracts of its walks use.
pub mod Stretch
