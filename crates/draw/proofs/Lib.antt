-- Laws of a layer that is cleared.
pub mod Clearing
pub mod ShapeKnown
