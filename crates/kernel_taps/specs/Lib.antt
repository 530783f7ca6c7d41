-- What the crate's own steps cite.
pub mod Lanes
pub mod Taps
