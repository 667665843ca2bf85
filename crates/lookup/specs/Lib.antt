-- What a search in the run of an address finds.
pub mod Spots
pub mod Rest
