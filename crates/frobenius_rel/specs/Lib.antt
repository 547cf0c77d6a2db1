pub mod Relation
pub mod RankPower
pub mod steps
