-- How the code's record is read, and what the calls' contracts say.
pub mod Numbers
pub mod Plain
pub mod Promises
pub mod Restart
pub mod Widths
