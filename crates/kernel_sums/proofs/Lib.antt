-- The laws that the functions' proofs share, here and in the crate above.
pub mod ReciprocalDivides
pub mod SlidingSums
pub mod FilledRanges
pub mod FilledParts
pub mod LinesApart
pub mod PassColumns
