-- Return maps as they are read.
use Rattle.std.specs.Prelude.{◌≡◌, ℕ, Bool, true, false, ◌&&◌, List, [], ◌∷◌, map, flat_map, Option, None, Some, option_map, unwrap_or, IfSome, MatchOption}
use Rattle.wpds_port.specs.declared.Word.{Word}
use Rattle.wpds_port.specs.declared.Word.TheVariants.{Name}
use Rattle.document_forms.specs.declared.weight.WeightsLine.{WeightsLine}
use Rattle.document_forms.specs.Names.{has_unknown}
use Rattle.document_forms.specs.Words.{is_equal}
use Rattle.document_forms.specs.Returns.{MoveForm, ReturnForm, PlainReturn, GivenMap, moves_of, return_of}
use Rattle.document_forms.specs.Kinds.{has_map_twice, map_names, is_foreign_map}
use Rattle.document_forms.specs.Documents.{move_value, map_value}
use Rattle.rule_reader.specs.Names.{names_in_front}
use Rattle.rule_reader.specs.declared.returns.ReturnWords.{ReturnWords}
use Rattle.rule_reader.specs.declared.returns.ReturnWords.TheVariants.{Plain, Map}
use Rattle.rule_reader.specs.declared.returns.MoveWords.{MoveWords}
use Rattle.rule_reader.specs.declared.returns.MovesRead.{MovesRead}
use Rattle.rule_reader.specs.declared.returns.ReturnRead.{ReturnRead}

abbrev pub is_any_name : Word → Bool
is_any_name (Name x) = true
is_any_name _ = false

-- ---- pairs of names

-- `X = Y` stands in front
abbrev pub begins_move : List Word → Bool
begins_move (Name x ∷ w ∷ Name y ∷ ws) = is_equal w
begins_move _ = false

-- the words are pairs, one at least
abbrev pub are_pairs : List Word → Bool
are_pairs (Name x ∷ w ∷ Name y ∷ []) = is_equal w
are_pairs (Name x ∷ w ∷ Name y ∷ v ∷ ws) = is_equal w && are_pairs (v ∷ ws)
are_pairs _ = false

-- the pairs that words begin with
abbrev pub moves_said : List Word → List MoveForm
moves_said (Name x ∷ w ∷ Name y ∷ ws) = record { to = x; from = y } ∷ moves_said ws
moves_said _ = []

abbrev pub move_form : MoveWords → MoveForm
move_form m = record { to = m.to.now; from = m.from.now }

-- the pairs behind the word `move`, if the word is there
abbrev pub moves_if_said : Option (List Word) → Option (Option (List MoveForm))
moves_if_said None = Some None
moves_if_said (Some ws) = option_map Some (moves_of ws)

-- ---- the form

-- the map that words behind `restore` and `move` say
abbrev pub map_said : (restore moves : Option (List Word)) → ReturnForm
map_said restore moves =
    GivenMap (record { restore = option_map names_in_front restore; moves = option_map moves_said moves })

abbrev pub return_form : ReturnWords → ReturnForm
return_form Plain = PlainReturn
return_form (Map restore moves) = map_said restore moves

-- what is restored, and what is moved

abbrev pub restored_in : Option (List Word) → List (List ℕ)
restored_in o = unwrap_or (option_map names_in_front o) []

abbrev pub moved_in : Option (List Word) → List MoveForm
moved_in o = unwrap_or (option_map moves_said o) []

-- the words behind `move` are pairs
abbrev pub ArePairs : Option (List Word) → Type 0
ArePairs o = IfSome o (λ ws. are_pairs ws ≡ true)

abbrev pub IsSaid : ReturnWords → Type 0
IsSaid Plain = Unit {0}
IsSaid (Map restore moves) = ArePairs moves

-- ---- what is read

-- the names of pairs
abbrev pub ends_of : List MoveForm → List (List ℕ)
ends_of ms = flat_map (λ m. m.to ∷ m.from ∷ []) ms

pub record AreMovesRead (items : List (List ℕ)) (ms : List MoveForm) (r : MovesRead) : Type 0 where
  pub unknown : r.unknown ≡ has_unknown items (ends_of ms)
  pub moves : r.unknown ≡ false → r.moves.items ≡ map (move_value items) ms

-- What was read is the return: this is amiss, and where nothing is, its map stands.
pub record IsReadReturn (u : WeightsLine) (items : List (List ℕ)) (f : ReturnForm) (r : ReturnRead) : Type 0 where
  pub twice : r.twice ≡ has_map_twice f
  pub unknown : r.unknown ≡ has_unknown items (map_names u f)
  pub foreign : r.foreign ≡ is_foreign_map u f
  pub map : r.unknown ≡ false → r.foreign ≡ false → r.map ≡ map_value items f

abbrev pub IsReturnRead : WeightsLine → List (List ℕ) → List Word → Option ReturnRead → Type 0
IsReturnRead u items ws read =
    MatchOption read (return_of ws ≡ None) (λ r. (f : ReturnForm) × (return_of ws ≡ Some f) × IsReadReturn u items f r)
