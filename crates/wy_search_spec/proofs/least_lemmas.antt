pub mod SizeLemmas
pub mod PlaceLemmas
pub mod RoundLemmas
pub mod SoundLemmas
pub mod LeastLemmas
