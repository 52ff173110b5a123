-- General facts: numbers, properties of numbers, digits, lists, sets of codes and numbers in bytes.
pub mod Facts
pub mod Properties
pub mod Digits
pub mod CodeSets
pub mod Twos
