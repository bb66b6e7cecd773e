pub mod Rule
pub mod Held
pub mod Equations
pub mod Run
pub mod Reached
pub mod Convergence
pub mod Example
