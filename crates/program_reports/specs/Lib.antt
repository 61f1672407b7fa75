pub mod ProgramReports
pub mod private
