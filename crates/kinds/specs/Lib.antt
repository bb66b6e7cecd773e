pub mod Bits
pub mod Bounded
pub mod Disc
pub mod Figures
pub mod Least
pub mod Light
pub mod Most
pub mod Stations
-- proofs of the laws; the formulas of the kinds stand in the files above
pub mod Laws
