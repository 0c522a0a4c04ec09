-- No pass meets what document 01 leaves undefined: over any arithmetic that agrees with the number steps where they are
-- defined, each pass gives the picture that it gives at binary32. One law for each pass; its file begins with the
-- argument in words. Assumes nothing.
pub mod Shared
pub mod Blur
pub mod Scanlines
pub mod Vignette
pub mod Crt
pub mod Curvature
pub mod AutoGradient
pub mod Lut
pub mod ColorCorrection
pub mod Ntsc
pub mod Bloom
pub mod Persistence
pub use Scanlines.{scanlines-inside}
pub use Vignette.{vignette-inside}
pub use Crt.{crt-inside}
pub use Curvature.{curvature-inside}
pub use AutoGradient.{auto_gradient_inside}
pub use Lut.{lut-inside}
pub use ColorCorrection.{color_correction_inside}
pub use Ntsc.{ntsc-inside}
pub use Bloom.{bloom-inside}
pub use Persistence.{persistence-inside}
