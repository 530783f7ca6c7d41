-- Why a curve by maps and a curve by tables are the same, and what its maps hold.
pub mod Transfers
pub mod MapsFilled
pub mod Curved
