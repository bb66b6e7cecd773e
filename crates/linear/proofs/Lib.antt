pub mod Existence
mod Cells
mod Refinement
mod Closedness
mod Uniqueness
mod Steps
