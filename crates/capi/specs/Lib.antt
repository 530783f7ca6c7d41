-- What the library's functions promise.
pub mod Lines
pub mod Rules
