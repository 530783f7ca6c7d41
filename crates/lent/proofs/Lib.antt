-- Parts of the proofs of functions over a lent list of steps, which walk their MIR: none says anything of the function.
pub mod Elem
pub mod Again
pub mod Tail
pub mod SaysAnd
pub mod StepSize
pub mod Own
