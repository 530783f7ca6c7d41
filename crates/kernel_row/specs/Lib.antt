-- Rows of pixels: moved rows, and the first invalid pixel.
pub mod Row
pub mod Code
