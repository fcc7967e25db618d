pub mod Shard
pub mod Replay
pub mod Contents
pub mod Places
pub mod Index
pub mod Step
