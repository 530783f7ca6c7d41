-- Laws of erode and dilate on a picture.
pub mod ExtremeBanded
