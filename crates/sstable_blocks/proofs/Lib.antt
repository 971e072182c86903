mod Filters
mod Lists
mod Layouts
mod Reading
mod Checks
mod Scans
mod ManyReads
