-- How the audit of the queue works.
pub mod Queue
