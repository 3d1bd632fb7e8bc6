pub mod PlaceLaws
pub mod StandsLaws
