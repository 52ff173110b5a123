-- Expressions: their parts, words, readings and records.
pub mod Parts
pub mod Items
pub mod WordReading
pub mod FirstWorded
pub mod ReadingHeads
pub mod Records
