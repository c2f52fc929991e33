-- Fields of lines in words: names of numbers, AD structures, monitors.
pub mod Names
pub mod Cuts
pub mod CutsLaws
pub mod Data
pub mod Monitors
pub mod Turns
