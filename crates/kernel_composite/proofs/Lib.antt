-- Laws of the definitions that the kernel's contracts cite.
pub mod FactorWords
pub mod FactorRows
pub mod BytePairs
pub mod BlendedIsComposited
