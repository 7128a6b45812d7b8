pub mod Shifts
pub mod Order
pub mod Products
pub mod Columns
pub mod Quotients
pub mod Signs
