-- Laws that the proofs of the kernels cite.
pub mod UnpremultiplyByProduct
pub mod PremultipliedRows
pub mod LuminanceByTable
pub mod LentParts
