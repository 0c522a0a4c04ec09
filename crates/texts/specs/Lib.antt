-- Words of a line: Words. Names: Names. Words as numbers: Numbers. What can be wrong: Mistakes. Settings: Settings. A line: Lines. A text, and the station
-- that it makes: Read. The text of a chain: Print; worked cases of it: PrintCases. What is proved of texts: Claims.
pub mod Words
pub mod Names
pub mod Numbers
pub mod Mistakes
pub mod Settings
pub mod Lines
pub mod Read
pub mod Print
pub mod PrintCases
pub mod Claims
