-- The cabinet (request P14). What it makes of a source: Source; its call: Cabinet; what the functions promise: Promises; what is proved of it: Claims, Cases.
pub mod Source
pub mod Cabinet
pub mod Promises
pub mod Claims
pub mod Cases
