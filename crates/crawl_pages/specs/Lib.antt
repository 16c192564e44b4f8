pub mod Pages
pub mod ResultOrder
