-- A step over a slice: Over. A card on its way through opening and writing: Cards. A text on its way to its card: Texts. A size in two words: Sizes.
pub mod Over
pub mod Cards
pub mod Texts
pub mod Sizes
