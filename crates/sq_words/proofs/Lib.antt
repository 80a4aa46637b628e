pub mod Bools
pub mod Lists
pub mod Numbers
pub mod Results
pub mod Prefixes
pub mod Ranges
pub mod Alls
pub mod Sorting
