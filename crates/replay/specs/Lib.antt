-- The checksum of an answer.
pub mod Adler
