-- The passes as the product has them: each definition's text at binary32, `plain`. Contracts and proofs cite these
-- names; a proof that opens a definition opens its text, `unfolding Text.Crt.beam` (`use Rattle.passes.specs as Text`).
pub mod Pixel
pub mod Position
pub mod Blur
pub mod Scanlines
pub mod Vignette
pub mod Crt
pub mod Curvature
pub mod AutoGradient
pub mod Lut
pub mod ColorCorrection
pub mod Ntsc
pub mod Bloom
pub mod Persistence
