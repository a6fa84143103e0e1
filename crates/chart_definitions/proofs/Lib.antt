mod Tries
mod Small
