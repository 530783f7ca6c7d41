-- The least and the largest of a window, on lines of bytes in one buffer.
pub mod Extremes
pub mod PingPong
pub mod Growth
