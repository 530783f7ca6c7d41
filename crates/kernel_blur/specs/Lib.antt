-- What the crate's clauses cite.
pub mod StridedRows
pub mod Blurred
pub mod PassAdvanced
