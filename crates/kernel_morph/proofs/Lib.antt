-- Laws that the proofs share.
pub mod OverlappingFolds
pub mod CutWindows
pub mod WindowEdges
pub mod WidenedWindows
pub mod PingPongGrowth
pub mod Zeros
