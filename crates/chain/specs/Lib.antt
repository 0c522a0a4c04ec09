-- The calls: Chain, Lent, Calls, Answers. The plain machine and demand 3: Machine, Agree. What is proved of single calls:
-- Claims. What the number steps leave undefined is not met: Numbers. A still picture stays still: StillPicture. The dearest card: Dearest. Worked
-- cases: Cases, Marked. What is proved of answers, for the crates above: Laws.
pub mod Claims
pub mod Chain
pub mod Lent
pub mod Calls
pub mod Answers
pub mod Machine
pub mod Agree
pub mod StillPicture
pub mod Cases
pub mod Marked
pub mod Dearest
pub mod Numbers
pub mod Laws
