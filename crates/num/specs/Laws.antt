-- Laws that proofs here and above cite; nothing in this folder has to be believed. Of tests: Bools; of order and bounds: Order,
-- Within, Bounds, Index, Signs, Values; of rounding and ranges: Sized, Least, Quotients, Squares, Upto; how far a rounding moves: Units. Of loops that
-- rewrite a slice: Rewrite; of sums: Sums; of refusals: Refusals; of what is held: Held.
pub mod Bools
pub mod Order
pub mod Within
pub mod Bounds
pub mod Index
pub mod Signs
pub mod Values
pub mod Sized
pub mod Least
pub mod Quotients
pub mod Squares
pub mod Upto
pub mod Units
pub mod Rewrite
pub mod Sums
pub mod Refusals
pub mod Held
