pub mod Draw
pub mod Traffic
pub mod Said
