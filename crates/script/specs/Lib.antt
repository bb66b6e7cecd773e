pub mod Feed
pub mod Legend
pub mod Refusal
pub mod Shown
pub mod Table
