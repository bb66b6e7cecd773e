pub mod Hex
pub mod Order
pub mod Stations
pub mod Table
pub mod Turns
