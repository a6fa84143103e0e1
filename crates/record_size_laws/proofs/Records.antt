-- That each record of made parts fits.
pub mod Sums
pub mod Borders
pub mod Traces
pub mod Pointers
pub mod Texts
pub mod Features
pub mod Sides
pub mod Lengths
pub mod Whole
