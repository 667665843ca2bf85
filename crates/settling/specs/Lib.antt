-- Settle on plain numbers and words: what is asked of them, and what each step leaves.
pub mod State
pub mod Ready
