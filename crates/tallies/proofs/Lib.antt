-- Laws of the counters.
pub mod Carries
pub mod Tallies
pub mod InUse
pub mod Walks
pub mod Sums
