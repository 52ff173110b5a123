-- The laws of sets of codes: `Pairs` has those on sets, of which another crate takes what it says of the words that it hands out.
mod Digits
pub mod Pairs
