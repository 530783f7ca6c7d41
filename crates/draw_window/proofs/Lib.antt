-- Laws of rules along the lines of a picture.
pub mod PixelChannels
pub mod BandedRules
pub mod StripRows
pub mod BandIsEnough
