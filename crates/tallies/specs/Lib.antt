-- What is counted of the queue and of the annex tables.
pub mod Tally
pub mod Namings
