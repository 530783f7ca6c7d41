-- Laws of the rules of a pass.
pub mod PassByRule
