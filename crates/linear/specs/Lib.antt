pub mod System
pub mod Solved
pub mod Rows
pub mod Removal
pub mod Kleene
