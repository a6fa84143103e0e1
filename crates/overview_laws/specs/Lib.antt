pub mod StaysShoal
