pub mod Operations
pub mod Notes
pub mod Outcomes
pub mod Effects
pub mod Tables
