mod Rounds
mod Flags
mod Going
mod Steps
mod Blocks
