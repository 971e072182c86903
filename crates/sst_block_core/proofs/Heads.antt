-- Tables of heads: how they grow, how they are searched, and what they say of the list.
pub mod Fronts
pub mod TableSearches
pub mod TablesAndLists
pub mod TableSteps
