-- Laws that the proofs of several functions cite, and the theorems of specs/Claims.antt: Untouched, Asking; of specs/Agree.antt:
-- Agreement, Made; of specs/Numbers.antt: Numbers; of specs/StillPicture.antt: StillPicture; of specs/Dearest.antt: Dearest; of specs/Marked.antt:
-- Marked. Runs that are computed: Examples.
pub mod PassCases
pub mod Replies
pub mod Depths
pub mod FirstOf
pub mod Forgets
pub mod Taken
pub mod Lending
pub mod Goes
pub mod Curves
pub mod Changed
pub mod Turns
pub mod Kept
pub mod Links
pub mod Linked
pub mod Deeper
pub mod Fit
pub mod Sound
pub mod OwnBuffer
pub mod Never
pub mod Meets
pub mod Agreement
pub mod Made
pub mod StillPicture
pub mod Examples
pub mod Marked
pub mod Untouched
pub mod Asking
pub mod Numbers
pub mod Dearest
