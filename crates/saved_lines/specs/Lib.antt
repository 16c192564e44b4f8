pub mod AddedPages
