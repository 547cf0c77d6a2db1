pub mod Forms
pub mod OneForm
