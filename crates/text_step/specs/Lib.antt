-- The line of a step: several fields, fields by position, its working space, a curve's transfers, a convolution, kinds, where numbers stand, and the step.
pub mod ManyFields
pub mod Fields
pub mod Spaces
pub mod Transfers
pub mod Convolutions
pub mod Kinds
pub mod Layout
pub mod StepLine
pub mod Examples
pub mod ConvolutionExamples
