-- The place of a line, as it is kept.
use Rattle.std.specs.Prelude.{ℕ, Bool, List, [], ◌∷◌, ◌++◌, Option, Some, None}
use Rattle.boolean_programs.specs.Structure.{Block as OpenBlock, InIf, InElse, InWhile}
use Rattle.program_tables.specs.declared.place.Block.{Block}
use Rattle.program_tables.specs.declared.place.Block.TheVariants.{If, Else, While}
use Rattle.program_forms.specs.Places.{Place}

abbrev pub block_said : Block → OpenBlock
block_said If = InIf
block_said Else = InElse
block_said While = InWhile

-- blocks that are kept with the newest last, with the newest first
abbrev pub newest_first : List Block → List OpenBlock
newest_first [] = []
newest_first (b ∷ bs) = newest_first bs ++ block_said b ∷ []

abbrev pub place_of : ℕ → Bool → Bool → List Block → Place
place_of begun inside heading blocks = record {
  begun = begun;
  inside = inside;
  heading = heading;
  blocks = newest_first blocks;
}

abbrev pub newest : List OpenBlock → Option OpenBlock
newest [] = None
newest (b ∷ bs) = Some b
