-- The laws that the calls' proofs cite.
pub mod Firsts
pub mod Records
pub mod Outcomes
pub mod Refused
pub mod Quicks
pub mod Takes
pub mod Deletes
pub mod Renews
pub mod Starts
pub mod Parts
pub mod Audits
pub mod Settles
pub mod Doubles
