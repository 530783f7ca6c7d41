-- A convolution drawn, and the rows that it reads.
pub mod Convolved
pub mod Staged
