pub mod Letters
pub mod Keys
pub mod Columns
pub mod Book
pub mod Text
pub mod Cases
