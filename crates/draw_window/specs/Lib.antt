-- Steps that look around: definitions that only the code needs; no promise to a caller cites them.
pub mod LookedAt
pub mod LineRules
pub mod Strips
