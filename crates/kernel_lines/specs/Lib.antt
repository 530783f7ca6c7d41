-- Rows extended beyond the edges of a canvas, and what a convolution makes of them.
pub mod Lines
pub mod Convolved
