-- What the code on the stored mother hashes does: the search from the last table down, and one mother hash less.
pub mod Entry
pub mod Search
pub mod Take
