-- The laws that belong to no one function.
mod Laid
mod LaidBlocks
mod LaidStays
mod Laying
mod Lays
mod Reaches
mod Walking
mod Writing
