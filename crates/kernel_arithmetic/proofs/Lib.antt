-- Laws that the proofs of the kernel cite.
pub mod ChannelIsLine
pub mod TableLines
