-- Laws that proofs here and above cite; nothing in this folder has to be believed. Of answers: Answers; of good
-- stations: Good; of how often kinds stand: Kinds; of scans over the records: Scans, Twelve; of the answers of readers: Steps.
pub mod Answers
pub mod Good
pub mod Kinds
pub mod Scans
pub mod Steps
pub mod Twelve
