pub mod Found
pub mod ItemReading
pub mod LineForms
pub mod LineReads
pub mod Readings
