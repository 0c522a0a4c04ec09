-- The settings of a pass: Settings. Exact decimal digits: Decimal. The first difference of two chains: Difference; what is proved of it: Claims.
-- Hexadecimal text: Hexadecimal. A size in words: Extent. The field that a bit lies in: Layout. What private functions promise: Private. Worked cases: Cases.
-- What is proved of them, for the crates above: Laws.
pub mod Settings
pub mod Decimal
pub mod Difference
pub mod Claims
pub mod Hexadecimal
pub mod Extent
pub mod Layout
pub mod Private
pub mod Cases
pub mod Laws
