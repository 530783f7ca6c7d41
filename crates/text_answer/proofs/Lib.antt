-- Laws of what is printed for a text.
pub mod BuffersSuffice
pub mod LastLayer
pub mod LastSpace
pub mod Printed
pub mod Earlier
