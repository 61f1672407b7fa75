-- Open blocks, as they are kept.
use Rattle.std.proofs.Common.{◌≡◌, ◌-◌, true, false, List, [], ◌∷◌, ◌++◌, length, Option, None, Some, refl, sym, ap, ◌∙◌, arith}
use Rattle.std.specs.Prelude.{option_map, slice_get}
use Rattle.boolean_programs.specs.Structure.{Block as OpenBlock, InIf, InElse, InWhile}
use Rattle.program_forms.specs.Places.{is_in_if}
use Rattle.program_tables.specs.declared.place.Block.{Block}
use Rattle.program_tables.specs.declared.place.Block.TheVariants.{If, Else, While}
use Rattle.program_tables.specs.Blocks.{block_said, newest_first, newest}

-- a block more is the newest
pub newest_push : (bs : List Block) (b : Block) → newest_first (bs ++ b ∷ []) ≡ block_said b ∷ newest_first bs
newest_push [] b = refl
newest_push (c ∷ bs) b = ap (λ l. l ++ block_said c ∷ []) (newest_push bs b)

pub pushed : (old new : List Block) (b : Block) → new ≡ old ++ b ∷ [] → newest_first new ≡ block_said b ∷ newest_first old
pushed old new b e = ap newest_first e ∙ newest_push old b

-- a block in front is not the newest, where others are behind it
newest_behind : (b c : Block) (bs : List Block) → newest (newest_first (b ∷ c ∷ bs)) ≡ newest (newest_first (c ∷ bs))
newest_behind b c bs = go (newest_first bs)
  where
    go : (l : List OpenBlock) → newest ((l ++ block_said c ∷ []) ++ block_said b ∷ []) ≡ newest (l ++ block_said c ∷ [])
    go [] = refl
    go (x ∷ l) = refl

last_newest : (b : Block) (bs : List Block) → newest (newest_first (b ∷ bs)) ≡ option_map block_said (slice_get (b ∷ bs) (length bs))
last_newest b [] = refl
last_newest b (c ∷ bs) = newest_behind b c bs ∙ last_newest c bs

pub newest_last : (bs : List Block) (o : Option Block) → o ≡ slice_get bs (length bs - 1) → option_map block_said o ≡ newest (newest_first bs)
newest_last [] o e = ap (option_map block_said) e
newest_last (b ∷ bs) o e = ap (option_map block_said) (e ∙ ap (slice_get (b ∷ bs)) (omega arith)) ∙ sym (last_newest b bs)

-- the newest block, once it is known
pub in_if : (bs : List OpenBlock) (o : Option Block) → option_map block_said o ≡ newest bs → (o ≡ Some If) → true ≡ is_in_if bs
in_if [] o e h = cc
in_if (InIf ∷ bs) o e h = refl
in_if (InElse ∷ bs) o e h = cc
in_if (InWhile ∷ bs) o e h = cc

pub not_in_if : (bs : List OpenBlock) (o : Option Block) → option_map block_said o ≡ newest bs → (o ≡ Some If → ⊥) → false ≡ is_in_if bs
not_in_if [] o e h = refl
not_in_if (InIf ∷ bs) None e h = cc
not_in_if (InIf ∷ bs) (Some If) e h = absurd (h refl)
not_in_if (InIf ∷ bs) (Some Else) e h = cc
not_in_if (InIf ∷ bs) (Some While) e h = cc
not_in_if (InElse ∷ bs) o e h = refl
not_in_if (InWhile ∷ bs) o e h = refl
