pub mod Sent
pub mod WorkedOutput
pub mod OnePlace
pub mod OneStep
pub mod Done
pub mod Homes
