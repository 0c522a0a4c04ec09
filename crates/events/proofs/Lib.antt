-- Laws of the input: Sizes. Of the line of a frame: Lines. Of what a frame does: Spoken. Of the cases of an event: Cases. The claims of specs/Reading: Reading, Unlooked.
pub mod Sizes
pub mod Lines
pub mod Spoken
pub mod Cases
pub mod Reading
pub mod Unlooked
