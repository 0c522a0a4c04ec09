-- A file of binary PPM under a station: Outcome, Frames; what is proved of it: Claims. A file that holds a curve: Curve. Rectangles in words: Area; worked
-- cases: Cases. The totals of a file's frame in them: Judge.
pub mod Outcome
pub mod Frames
pub mod Claims
pub mod Curve
pub mod Area
pub mod Cases
pub mod Judge
