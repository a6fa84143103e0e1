mod Totals
mod Fans
mod Runs
mod Sides
mod TwoLegs
mod Pieces
mod Charts
