-- The run sheet (request P13). What stands on it: Events; what playing it does: Play; what the functions promise: Promises, and those that write: Written;
-- what is proved of it: Claims, Cases.
pub mod Events
pub mod Play
pub mod Promises
pub mod Written
pub mod Claims
pub mod Cases
