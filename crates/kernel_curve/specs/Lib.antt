-- Component transfer: the map of one channel.
pub mod Channel
pub mod Code
