-- The input: Events. The lines that are printed: Text. What is left in a buffer: Buffers. What an event does and prints:
-- Play. What the functions promise: Promises. What a whole input prints, why it may be read piece by piece, and document
-- 01's example: Program, Reading, Worked. What is proved of them, for the crates above: Laws.
pub mod Text
pub mod Buffers
pub mod Events
pub mod Play
pub mod Promises
pub mod Program
pub mod Reading
pub mod Worked
pub mod Laws
