-- Laws over plain lists and positions, with no code in them: a file for each thing that they speak of.
pub mod Flaws
pub mod Turns
pub mod Known
pub mod Missing
pub mod Distinct
pub mod Alike
pub mod Lengths
pub mod Lasts
pub mod Linking
