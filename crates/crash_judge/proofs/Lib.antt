pub mod WantedLaws
pub mod EffectLaws
pub mod NearestLaws
pub mod FrontLaws
pub mod Likes
pub mod PartLaws
