-- What Double sends to the second main, entry by entry.
pub mod Arrivals
