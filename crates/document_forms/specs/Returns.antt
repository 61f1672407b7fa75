-- Return maps as they are written, behind the word `return`.
use Rattle.std.specs.Prelude.{ℕ, if◌then◌else◌, List, [], ◌∷◌, Option, Some, None, option_map, codes}
use Rattle.wpds_port.specs.declared.Mark.TheVariants.{Equal}
use Rattle.wpds_port.specs.declared.Word.{Word}
use Rattle.wpds_port.specs.declared.Word.TheVariants.{Name, Mark as Sign}
use Rattle.truth_tables.specs.Texts.{is_name}
use Rattle.document_forms.specs.Words.{is_move, before, behind, pairs, name_of, each_of_some, ◌>>=◌}

-- `X=Y`
pub record MoveForm : Type 0 where
  pub to : List ℕ
  pub from : List ℕ

-- `restore NAME ..`, `move X=Y ..`, or both in this order. One of them is there.
pub record MapForm : Type 0 where
  pub restore : Option (List (List ℕ))
  pub moves : Option (List MoveForm)

pub data ReturnForm : Type 0 where
  -- `plain`
  PlainReturn : ReturnForm
  GivenMap : MapForm → ReturnForm

abbrev pub move_of : List Word → Option MoveForm
move_of (Name x ∷ Sign Equal ∷ Name y ∷ []) = Some (record { to = x; from = y })
move_of _ = None

-- one or more, and nothing before the first
abbrev pub moves_in : List (List Word) → Option (List MoveForm)
moves_in ([] ∷ ps) = each_of_some move_of ps
moves_in _ = None

abbrev pub moves_of : List Word → Option (List MoveForm)
moves_of ws = moves_in (pairs ws)

-- what stands behind the word `move`, if the word is there
abbrev pub moves_behind : List Word → Option (Option (List MoveForm))
moves_behind ws =
    elim (behind is_move ws) [ None ↦ Some None | Some vs ↦ option_map Some (moves_of vs) ]

-- behind the word `restore`
abbrev pub restore_of : List Word → Option ReturnForm
restore_of ws = do
  restore ← each_of_some name_of (before is_move ws)
  moves ← moves_behind ws
  Some (GivenMap (record { restore = Some restore; moves = moves }))

abbrev pub plain_of : List Word → Option ReturnForm
plain_of [] = Some PlainReturn
plain_of (w ∷ ws) = None

abbrev pub only_moves : List MoveForm → ReturnForm
only_moves ms = GivenMap (record { restore = None; moves = Some ms })

abbrev pub return_of : List Word → Option ReturnForm
return_of [] = None
return_of (w ∷ ws) =
    if is_name (codes "plain") w then plain_of ws
    else (if is_name (codes "restore") w then restore_of ws
    else (if is_name (codes "move") w then option_map only_moves (moves_of ws) else None))
