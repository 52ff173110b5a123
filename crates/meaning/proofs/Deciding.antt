-- What is found by computing: bounds, conflicts, moves, words and how a run is followed.
pub mod Listed
pub mod Answer
pub mod Bounds
pub mod ConflictList
pub mod SharedSet
pub mod Moves
pub mod Search
pub mod Followed
