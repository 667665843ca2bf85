-- Laws of the plain words on lists.
pub mod Tests
pub mod Alls
pub mod Sums
pub mod RunLaws
