pub mod NodeWeighers
pub mod WeigherLaws
pub mod private
