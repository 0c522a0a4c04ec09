-- Laws that the proofs of several functions cite: Arms, Compared, Ranges, Tokens, Walking; of decimal digits: Digits, Powers, Values, Doubling. The theorems of specs/Claims.antt: Theorems,
-- on SameBits.
pub mod Arms
pub mod Compared
pub mod Ranges
pub mod Tokens
pub mod Walking
pub mod Digits
pub mod Powers
pub mod Values
pub mod Doubling
pub mod SameBits
pub mod Theorems
