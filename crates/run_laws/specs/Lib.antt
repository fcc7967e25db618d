pub mod TextKinds
pub mod Pieces
pub mod WorkedReport
pub mod WorkedApart
pub mod Alone
pub mod WorkedRun
pub mod WorkedTraffic
