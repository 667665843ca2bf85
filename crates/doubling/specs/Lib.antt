-- What Double stores, entry by entry, and what its caller hands in and gets back. Read in this order.
pub mod NewHashes
pub mod Accepted
