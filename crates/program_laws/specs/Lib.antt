pub mod ReadPrograms
