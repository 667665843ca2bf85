-- Document 01 as definitions: the record, what the tables hold, soundness, and every call with its refusals. Read in this order.
pub mod Record
pub mod Refusals
pub mod Tables
pub mod Sound
pub mod Settling
pub mod Doubling
pub mod Calls
pub mod Quick
pub mod Slow
pub mod Lookups
pub mod Cases
