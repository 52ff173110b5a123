-- The laws that belong to no one function.
mod Admissions
