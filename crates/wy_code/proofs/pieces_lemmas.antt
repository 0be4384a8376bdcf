pub mod StepLemmas
pub mod PlacingLemmas
