-- What is promised of a text that is read and drawn.
pub mod Lines
