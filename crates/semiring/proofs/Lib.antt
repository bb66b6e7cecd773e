pub mod Dioid
pub mod Order
pub mod Powers
pub mod Star
pub mod Sums
