-- Definitions: F32, Const, Steps, Root, NearestRoot, Ranges, Index; a list rewritten word by word: Rewrite; sums: Sums; what calls
-- refuse by: Refusals; what a history holds: Held. Private for the contracts of private functions. Worked cases: Cases. What is
-- proved of them, for the crates above: Laws.
pub mod F32
pub mod Const
pub mod Steps
pub mod Root
pub mod NearestRoot
pub mod Ranges
pub mod Index
pub mod Rewrite
pub mod Sums
pub mod Refusals
pub mod Held
pub mod Private
pub mod Cases
pub mod Laws
