pub mod LeastLemmas
pub mod PlaceLemmas
pub mod NarrowLemmas
pub mod CoarseLemmas
