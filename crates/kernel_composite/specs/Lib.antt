-- Composites by rows: what a row holds; pairs of bytes, rows of factors, and what the code works out on the way.
pub mod CompositedRow
pub mod BytePairs
pub mod Factors
pub mod Code
