-- Laws that the proofs share, here and in the crate above.
pub mod FoldedRanges
pub mod Foldables
pub mod Semilattices
pub mod Neighbours
pub mod LineRuns
pub mod FoldedTwice
