pub mod Number
pub mod Whole
pub mod Halves
pub mod Text
pub mod NumberParts
pub mod Value
pub mod Printed
pub mod Laws
