-- Laws of the definitions that the kernels' contracts cite.
pub mod AlphaWords
pub mod LentParts
pub mod MovedRows
pub mod FirstInvalid
pub mod Marks
