pub mod Logs
pub mod Losses
pub mod Offers
pub mod Recent
