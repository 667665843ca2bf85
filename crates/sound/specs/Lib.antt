-- How the audit of one table works: the payloads that it allows, its lap, and how it reads a run.
pub mod Spans
pub mod Lap
pub mod Reading
