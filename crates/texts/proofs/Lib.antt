-- Tests in code: Tests. Fronts of lists: Fronts. Words: Spans. Names: Naming. Tables by kind: Tables. Digits and numbers: Worths, Shapes. Settings: Valuing.
-- Lines: Lining. Texts: Reading. Texts that are printed: Printing, Printed. What is printed is read back: Lexing, CountBack, RealBack, LineBack, ReadBack.
pub mod Tests
pub mod Fronts
pub mod Spans
pub mod Naming
pub mod Tables
pub mod Worths
pub mod Shapes
pub mod Valuing
pub mod Lining
pub mod Reading
pub mod Printing
pub mod Printed
pub mod Lexing
pub mod CountBack
pub mod RealBack
pub mod LineBack
pub mod ReadBack
