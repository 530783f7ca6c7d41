-- What the crate's clauses cite.
pub mod Reciprocal
pub mod Running
