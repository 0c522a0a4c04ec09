-- The encoding of a station in bytes: State. What the exports answer and leave: Outcomes, Judged, Sheets, Cabinets. What is proved of the encoding: Claims.
pub mod State
pub mod Outcomes
pub mod Judged
pub mod Sheets
pub mod Cabinets
pub mod Claims
