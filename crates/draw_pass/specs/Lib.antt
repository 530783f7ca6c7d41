-- Blur, erode and dilate by one scheme.
pub mod PassDrawn
pub mod PassRule
