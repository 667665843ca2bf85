-- The laws of one slot word: its payload, its numbers and its kind.
pub mod PayloadLaws
pub mod Least
pub mod Table
pub mod NumberLaws
pub mod Arms
pub mod Shift
