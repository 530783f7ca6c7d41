-- A blur along lines: definitions that only the code needs; no promise to a caller cites them.
pub mod BlurRule
pub mod Lanes
