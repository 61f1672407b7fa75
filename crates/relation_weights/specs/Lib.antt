pub mod Actions
pub mod Moves
pub mod Relations
pub mod RelationLaws
pub mod RelationNodes
pub mod private
