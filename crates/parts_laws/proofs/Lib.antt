mod Lists
mod Counting
mod RingPointers
mod Adding
mod Chart
mod WellFormed
mod Faultless
