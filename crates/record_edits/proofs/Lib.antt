mod Places
mod Kept
mod Worked
