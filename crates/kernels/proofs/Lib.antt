-- Laws that the proofs of the exported names cite.
pub mod PairedNumbers
