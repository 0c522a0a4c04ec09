-- Pixels as words and as bytes: Pixels. Files of binary PPM: Step, Ppm; worked cases: Cases. What is proved of them: Claims.
-- What private functions promise: Private.
pub mod Pixels
pub mod Step
pub mod Ppm
pub mod Private
pub mod Cases
pub mod Claims
