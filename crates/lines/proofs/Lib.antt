-- Laws of the list that is read from a text.
pub mod AllStepsCount
