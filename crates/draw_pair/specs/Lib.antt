-- What drawing a step of the shape pair leaves.
pub mod Pair
pub mod Code
