-- Laws of the walks over one table: the two straight parts of a circle, and the run of an entry at home.
pub mod Parts
pub mod Homes
