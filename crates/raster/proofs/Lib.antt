-- Laws of the loops over pixels: Unpacking, Packing. Of those over a header's bytes: Counting. Of readers: Taken. The claims of specs/Claims.antt: Back, Decimal, Taken.
pub mod Unpacking
pub mod Packing
pub mod Counting
pub mod Taken
pub mod Decimal
pub mod Back
