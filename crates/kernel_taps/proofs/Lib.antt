-- Laws that the proofs of the kernel cite.
pub mod FilledFronts
pub mod RowTotals
pub mod DoubleSums
pub mod Reciprocals
pub mod WholeTaps
pub mod SignedQuotients
pub mod TurnedLanes
pub mod SmallKernels
