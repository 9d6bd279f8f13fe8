pub mod Listing
pub mod Sights
pub mod Fills
pub mod Masks
pub mod Laying
pub mod Slots
pub mod Rows
pub mod Arrays
