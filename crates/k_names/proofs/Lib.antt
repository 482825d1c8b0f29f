pub mod Climbs
pub mod HeightLaws
pub mod IndexLaws
pub mod KeyedLaws
pub mod PairLaws
