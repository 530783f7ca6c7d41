-- What the tables of every alpha and of luminance hold, pixels premultiplied, and what the code works out on the way.
pub mod Tables
pub mod Premultiplied
pub mod Code
