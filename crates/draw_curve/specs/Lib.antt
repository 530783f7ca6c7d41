-- What drawing a curve leaves.
pub mod Curve
pub mod Code
