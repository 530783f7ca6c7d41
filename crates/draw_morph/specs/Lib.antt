-- Erode and dilate along lines.
pub mod ExtremeRule
