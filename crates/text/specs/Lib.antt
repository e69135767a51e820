pub mod Grammar
pub mod Reader
pub mod Raw
pub mod RawReader
pub mod Theorems
pub mod Endings
