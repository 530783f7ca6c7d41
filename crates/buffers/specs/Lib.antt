-- What drawing a step leaves in the buffers.
pub mod Buffers
pub mod Shown
pub mod Drawn
pub mod Context
pub mod Seen
pub mod Strip
pub mod LayerReplaced
pub mod Code
pub mod Kernels
