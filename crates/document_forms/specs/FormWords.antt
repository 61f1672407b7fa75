-- Which words are which form: how each form is written.
use Rattle.std.specs.Prelude.{◌≡◌, IsTrue, ℕ, Bool, true, false, not, ◌&&◌, ◌||◌, nat_le, List, [], ◌∷◌, ◌++◌, length, Option, Some, None, codes, map, flat_map, is_some}
use Rattle.std.specs.List.{list_any, list_all}
use Rattle.wpds_base.specs.Limits.{most_pushed}
use Rattle.wpds_port.specs.declared.Mark.TheVariants.{Arrow, Implies, Colon, Equal}
use Rattle.wpds_port.specs.declared.Word.{Word}
use Rattle.wpds_port.specs.declared.Word.TheVariants.{Name, Number, Mark as Sign}
use Rattle.wpds_port.specs.Tokens.{is_lawful_word}
use Rattle.document_forms.specs.Names.{is_reserved}
use Rattle.document_forms.specs.Words.{is_return, is_move}
use Rattle.document_forms.specs.Patterns.{PatternForm, items_words, are_items}
use Rattle.document_forms.specs.Returns.{MoveForm, ReturnForm, PlainReturn, GivenMap}
use Rattle.document_forms.specs.Forms.{WeightsForm, ReachWeights, CostWeights, GenKillWeights, CopyWeights, RelationWeights, Class, Controls, Symbols, Facts, Variables, RuleForm, LineForm, OfWeights, OfNames, OfRule, OfQuery}

-- ---- the words of a form

abbrev pub weights_words : WeightsForm → List Word
weights_words ReachWeights = Name (codes "reach") ∷ []
weights_words (CostWeights n) = Name (codes "cost") ∷ Number n ∷ []
weights_words GenKillWeights = Name (codes "genkill") ∷ []
weights_words CopyWeights = Name (codes "copy") ∷ []
weights_words RelationWeights = Name (codes "relation") ∷ []

abbrev pub class_word : Class → List ℕ
class_word Controls = codes "controls"
class_word Symbols = codes "symbols"
class_word Facts = codes "facts"
class_word Variables = codes "variables"

abbrev pub pattern_words : PatternForm → List Word
pattern_words p = Name p.control ∷ Sign Colon ∷ items_words p.items

abbrev pub move_words : MoveForm → List Word
move_words m = Name m.to ∷ Sign Equal ∷ Name m.from ∷ []

abbrev pub moves_words : Option (List MoveForm) → List Word
moves_words None = []
moves_words (Some ms) = Name (codes "move") ∷ flat_map move_words ms

abbrev pub restore_words : Option (List (List ℕ)) → List Word
restore_words None = []
restore_words (Some xs) = Name (codes "restore") ∷ map Name xs

abbrev pub return_words : ReturnForm → List Word
return_words PlainReturn = Name (codes "plain") ∷ []
return_words (GivenMap m) = restore_words m.restore ++ moves_words m.moves

abbrev pub back_words : Option ReturnForm → List Word
back_words None = []
back_words (Some r) = Name (codes "return") ∷ return_words r

abbrev pub weight_words : Option (List Word) → List Word
weight_words None = []
weight_words (Some ws) = Sign Colon ∷ ws

-- the right side and the weight
abbrev pub right_words : RuleForm → List Word
right_words r = map Name r.right ++ weight_words r.weight

abbrev pub rule_words : RuleForm → List Word
rule_words r =
    Name r.control ∷ Name r.symbol ∷ Sign Arrow ∷ Name r.to
    ∷ (right_words r ++ back_words r.back)

abbrev pub form_words : LineForm → List Word
form_words (OfWeights w) = Name (codes "weights") ∷ weights_words w
form_words (OfNames c xs) = Name (class_word c) ∷ map Name xs
form_words (OfRule r) = Name (codes "rule") ∷ rule_words r
form_words (OfQuery p q) =
    Name (codes "query") ∷ (pattern_words p ++ Sign Implies ∷ pattern_words q)

-- ---- what a form keeps to, besides its words

abbrev pub is_some_list : {A : Type 0} → List A → Bool
is_some_list [] = false
is_some_list (x ∷ xs) = true

-- no word of these ends the text before it
abbrev pub has_none : (Word → Bool) → List Word → Bool
has_none test ws = list_all (λ w. not (test w)) ws

-- one name or more, none of which begins the moves
abbrev pub is_restore : Option (List (List ℕ)) → Bool
is_restore None = true
is_restore (Some xs) = is_some_list xs && has_none is_move (map Name xs)

abbrev pub are_moves : Option (List MoveForm) → Bool
are_moves None = true
are_moves (Some ms) = is_some_list ms

abbrev pub is_return_form : ReturnForm → Bool
is_return_form PlainReturn = true
is_return_form (GivenMap m) =
    (is_some m.restore || is_some m.moves) && (is_restore m.restore && are_moves m.moves)

abbrev pub is_back : Option ReturnForm → Bool
is_back None = true
is_back (Some r) = is_return_form r

-- at most two symbols; the word `return` stands in front of a return alone
abbrev pub is_rule_form : RuleForm → Bool
is_rule_form r =
    nat_le (length r.right) most_pushed && (has_none is_return (right_words r) && is_back r.back)

abbrev pub is_form : LineForm → Bool
is_form (OfWeights w) = true
is_form (OfNames c xs) = is_some_list xs && not (list_any is_reserved xs)
is_form (OfRule r) = is_rule_form r
is_form (OfQuery p q) = are_items p.items && are_items q.items

-- The words are the form: each is one that a form takes, and the form writes them.
abbrev pub IsForm : List Word → LineForm → Type 0
IsForm ws f = IsTrue (list_all is_lawful_word ws) × IsTrue (is_form f) × (form_words f ≡ ws)
