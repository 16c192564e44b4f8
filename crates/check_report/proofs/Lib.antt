pub mod Prelude
mod Adding
mod Controls
mod Decoding
mod Inert
mod Objects
mod PathBytes
mod Pieces
mod Results
mod Runs
mod Sorting
mod Suites
