pub mod Reading
pub mod LoadSize
mod LoadPlaced
mod LoadRule
mod LoadRules
mod LoadGame
pub mod EncodingExprs
pub mod EncodingGame
