-- What a call is given, what a checked one asks of its steps, and what they leave.
pub mod Given
pub mod Ready
pub mod Drawing
pub mod InContext
pub mod Next
