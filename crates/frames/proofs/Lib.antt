-- What is lent of a file and of the framebuffer: Parts. The theorem of specs/Claims.antt: Kept. Rectangles in words: Words.
pub mod Parts
pub mod Kept
pub mod Words
