-- `Tests` has what the exported functions' tests show.
pub mod Tests
