-- Convolution by rows: what the code works out on the way.
pub mod Code
