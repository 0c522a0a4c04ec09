-- Laws that the proofs of several functions cite: Bytes, Sizes, Laid, Decoding, Replies, Played. The theorems of specs/Claims.antt: RoundTrip, Lasting, Closed.
pub mod Bytes
pub mod Sizes
pub mod Laid
pub mod Decoding
pub mod Replies
pub mod Played
pub mod RoundTrip
pub mod Lasting
pub mod Closed
