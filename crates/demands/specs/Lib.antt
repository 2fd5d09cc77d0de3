pub mod Orders
pub mod DemandOne
pub mod DemandThree
