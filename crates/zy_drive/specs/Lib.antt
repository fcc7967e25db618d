pub mod Drive
pub mod Resters
pub mod CallUp
pub mod Seat
pub mod Same
