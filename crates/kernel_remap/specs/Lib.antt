-- The table of a conversion between working spaces, and the tables of four maps.
pub mod Pairs
pub mod Remaps
pub mod Code
