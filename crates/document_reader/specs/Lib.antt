pub mod FirstLines
pub mod LinesLeft
pub mod NameLines
pub mod private
pub mod QueryReading
