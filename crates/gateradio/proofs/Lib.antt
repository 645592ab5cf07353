mod Counts
mod Sealed
mod Ways
