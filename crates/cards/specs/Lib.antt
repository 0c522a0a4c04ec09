-- What is answered: Answers. Readers: Step, Bits, Settings, Passes, Records, Card. Writers: Written, Sheet, Write. The
-- station test: Normal. What is claimed of them: Alike, Typed, Claims. Worked cases: Cases. What is proved of them, for the crates
-- above: Laws.
pub mod Answers
pub mod Step
pub mod Bits
pub mod Settings
pub mod Passes
pub mod Records
pub mod Card
pub mod Written
pub mod Normal
pub mod Sheet
pub mod Write
pub mod Alike
pub mod Typed
pub mod Claims
pub mod Cases
pub mod Laws
