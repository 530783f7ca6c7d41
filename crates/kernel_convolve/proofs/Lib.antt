-- Laws that the proofs of the kernels cite.
pub mod QuotientByNaturals
pub mod Totals
pub mod GatheredTaps
pub mod PlannedRows
pub mod QuotientByProduct
pub mod SummedRows
pub mod FinishedRows
