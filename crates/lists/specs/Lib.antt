-- Plain words on lists and tests that the definitions of document 01 use. Nothing of the filter is in them.
pub mod Lists
pub mod Runs
