-- What moves to the left.
mod Closers
