pub mod PageLists
pub mod PageTexts
pub mod SavedWeb
pub mod UrlIndices
pub mod WebChecks
pub mod WebErrors
pub mod WebLines
