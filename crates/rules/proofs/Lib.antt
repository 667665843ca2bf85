-- What is computed and proved on the definitions.
pub mod Cases
