-- What a pass may do with numbers: Arith. The passes, each named as its Rust file, and what several share (Pixel, Painted, Position,
-- Blur, Rows, Fold), over any arithmetic; Plain has them at binary32. The samples that blurs take: Samples. What goes through the chain:
-- Flow. A picture that stands still: Still. Two other arithmetics: Casts. Those that only private functions cite: Private. Worked
-- cases: Cases. What is proved of them, for the crates above: Laws.
pub mod Rows
pub mod Fold
pub mod Arith
pub mod Pixel
pub mod Painted
pub mod Position
pub mod Blur
pub mod Samples
pub mod Scanlines
pub mod Vignette
pub mod Crt
pub mod Curvature
pub mod AutoGradient
pub mod Lut
pub mod ColorCorrection
pub mod Ntsc
pub mod Bloom
pub mod Flow
pub mod Persistence
pub mod Plain
pub mod Still
pub mod Casts
pub mod Private
pub mod Cases
pub mod Laws
