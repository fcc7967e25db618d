pub mod Cutting
pub mod First
pub mod Marked
pub mod Piece
