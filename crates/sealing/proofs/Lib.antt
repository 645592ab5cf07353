mod Loops
mod Chunks
