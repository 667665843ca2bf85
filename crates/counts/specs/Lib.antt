-- How the audit of the counts works: from which address it goes on.
pub mod Blocks
