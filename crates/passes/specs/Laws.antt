-- Laws that proofs here and above cite; nothing in this folder has to be believed. Of loops over a frame: Rows, Fold (num has Rewrite);
-- of painted frames: Painted; of samples: Samples; of lengths: Lengths; of colour's curve: Curves; of the history: Persistence. No pass
-- meets what document 01 leaves undefined: Range, Casts, and proofs/Inside. That a picture stands still: proofs/Still.
pub mod Rows
pub mod Samples
pub mod Fold
pub mod Painted
pub mod Persistence
pub mod Lengths
pub mod Curves
pub mod Range
pub mod Casts
