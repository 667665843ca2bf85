-- Laws of the whole state.
pub mod Wholes
