-- What drawing a step of the shape map leaves.
pub mod Map
