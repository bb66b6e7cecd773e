pub mod Questions
pub mod Bench
pub mod Drafting
pub mod Loading
pub mod Slices
pub mod Working
pub mod Figures
