-- Laws of the rectangles.
pub mod Rects
