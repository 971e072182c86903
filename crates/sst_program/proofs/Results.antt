-- What runs print, and their faults.
pub mod Outcomes
pub mod Printing
