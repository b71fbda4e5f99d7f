pub mod LowMoves
pub mod Moving
pub mod Closing
