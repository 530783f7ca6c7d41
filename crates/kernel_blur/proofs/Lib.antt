-- The laws that the functions' proofs share.
pub mod PassLines
pub mod ThreePasses
pub mod StridedRows
