-- The laws that belong to no one function.
mod EventNodes
mod Lighting
mod Nearby
mod Prompting
