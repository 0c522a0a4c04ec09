-- Laws that several functions' proofs cite, and the theorem about the root's definition.
mod Patterns
mod NearWhole
mod WholePart
mod Clamped
mod WholeRoot
mod FoundDigits
mod PairedLines
mod RoundedRoot
mod ScaledRoot
mod RootOperand
mod NearestRoot
