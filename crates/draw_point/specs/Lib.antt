-- The shapes that are drawn here, and what drawing a row asks for.
pub mod Kindless
pub mod RowDrawn
