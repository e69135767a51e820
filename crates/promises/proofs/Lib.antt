pub mod Fitting
pub mod Every
pub mod Words
pub mod Acting
pub mod Witness
pub mod PileRun
