-- Laws over plain lists, with no code in them: a file for each thing that they speak of.
pub mod Sorting
pub mod Listing
pub mod Firsts
pub mod Promises
pub mod Accepted
pub mod Renewing
pub mod Alike
pub mod Locality
pub mod Filling
pub mod Mending
