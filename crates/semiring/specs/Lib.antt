pub mod Algebra
pub mod Order
pub mod Sums
pub mod Equation
pub mod Truth
