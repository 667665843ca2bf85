-- Laws of the audit of one table.
pub mod Laps
pub mod Tables
pub mod Steps
pub mod Ranges
pub mod Readings
