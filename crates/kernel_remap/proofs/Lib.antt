-- Laws that the proofs of the kernels cite.
pub mod SpaceMaps
pub mod TableLines
pub mod Remaps
