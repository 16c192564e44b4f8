pub mod HashOrder
