-- Laws that the proofs of several functions cite. Cited by the crates above too: that a picture stands still (Still), and that no step leaves its range
-- (Inside).
pub mod Still
pub mod Inside
pub mod RowLoops
mod Sums
mod Counted
mod Offsets
mod Chroma
mod Collected
mod Greys
mod Thirds
mod Planes
mod Mirror
mod Quarter
mod Places
mod Mixes
