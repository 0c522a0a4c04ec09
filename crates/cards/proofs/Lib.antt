-- Laws that the proofs of several functions cite, and the theorems of specs/Claims.antt: Theorems, OpensGood,
-- Survives, Inside, Longest.
pub mod Bits
pub mod Listed
pub mod Reals
pub mod Unknown
pub mod Tests
pub mod Taken
pub mod Opening
pub mod Padding
pub mod Packed
pub mod Back
pub mod Chain
pub mod Gives
pub mod Same
pub mod Theorems
pub mod OpensGood
pub mod Records
pub mod Widths
pub mod Sheets
pub mod Laying
pub mod Writing
pub mod Inside
pub mod Longest
pub mod Survives
