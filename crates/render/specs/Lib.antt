-- What the entry points promise, and what their own functions pass on (Code).
pub mod Promise
pub mod View
pub mod Code
