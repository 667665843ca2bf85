-- Demand 3: the histories of a filter, and what is to hold after each.
pub mod History
