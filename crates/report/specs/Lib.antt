pub mod Script
pub mod Settled
pub mod Figures
pub mod Written
pub mod Filled
pub mod Sheet
pub mod Reported
