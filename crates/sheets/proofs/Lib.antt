-- What bits and bytes write: Bytes. A frame's words, put one after another: Words. What is read of a sheet: Reading, Events. What an event does: Turning; and one after another:
-- Playing. What is written: Writing. The theorems of specs/Claims.antt: Calls; of specs/Cases.antt: Examples.
pub mod Bytes
pub mod Words
pub mod Reading
pub mod Events
pub mod Turning
pub mod Playing
pub mod Calls
pub mod Examples
pub mod Writing
