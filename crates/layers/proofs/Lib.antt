-- Laws of the loops over the steps of a sheet.
pub mod StepReplacesLayer
pub mod StepInContext
pub mod StandingInputs
pub mod SpacesKept
pub mod Rendering
pub mod Redrawing
pub mod Progress
pub mod AnswerSoFar
