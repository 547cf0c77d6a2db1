pub mod FirstRelation
pub mod FrobeniusRows
