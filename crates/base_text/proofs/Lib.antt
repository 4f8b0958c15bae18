pub mod TextLaws
-- `Decimals` has the laws of the decimal digits that are written, and `Hexes` those of the hexadecimal ones.
pub mod Decimals
pub mod Hexes
