-- The least or the largest of bytes in one buffer, and of lines of them.
pub mod Operation
pub mod Ranges
pub mod Lines
