-- The promises: each has one outcome, the text changes none, they meet, and how models of our code keep them.
pub mod Outcomes
pub mod JudgeNumbers
pub mod OtherText
pub mod GoesOn
pub mod Follows
pub mod Pieces
pub mod Lit
pub mod LowCodes
pub mod Meet
pub mod Room
