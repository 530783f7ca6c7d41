-- A layer cleared around a rectangle.
pub mod ClearedAround
pub mod CoversCanvas
