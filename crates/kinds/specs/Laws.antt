pub mod Alike
pub mod Bits
pub mod Disc
pub mod Equal
pub mod Least
pub mod Light
pub mod Most
pub mod Star
