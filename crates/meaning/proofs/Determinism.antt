-- Strong determinism: exactly where no node has a conflict; the lowest conflict; one reading for a word.
pub mod FirstAfter
pub mod Unique
pub mod Fork
pub mod Diverge
pub mod Lowest
pub mod AfterWorded
pub mod OneRecord
