-- The forms of lines, as syntax with names. A line's form depends on its words alone.
use Rattle.std.specs.Prelude.{ℕ, Bool, false, not, ◌&&◌, nat_le, if◌then◌else◌, List, [], ◌∷◌, length, Option, Some, None, option_map, option_and_then, bytes_eq, codes}
use Rattle.std.specs.List.{list_any, list_all}
use Rattle.wpds_base.specs.Limits.{most_pushed}
use Rattle.wpds_port.specs.declared.Mark.TheVariants.{Arrow}
use Rattle.wpds_port.specs.declared.Word.{Word}
use Rattle.wpds_port.specs.declared.Word.TheVariants.{Name, Number, Mark as Sign}
use Rattle.wpds_port.specs.Tokens.{is_lawful_word}
use Rattle.wpds_port.specs.Words.{text_words}
use Rattle.truth_tables.specs.Texts.{is_name}
use Rattle.document_forms.specs.Names.{is_reserved}
use Rattle.document_forms.specs.Words.{is_return, is_implies, is_colon, before, behind, name_of, each, each_of_some, guarded, ◌>>=◌}
use Rattle.document_forms.specs.Patterns.{PatternForm, pattern_of}
use Rattle.document_forms.specs.Returns.{ReturnForm, return_of}

-- `weights ..`, a cap by its digits
pub data WeightsForm : Type 0 where
  ReachWeights : WeightsForm
  CostWeights : List ℕ → WeightsForm
  GenKillWeights : WeightsForm
  CopyWeights : WeightsForm
  RelationWeights : WeightsForm

-- the classes of names
pub data Class : Type 0 where
  Controls : Class
  Symbols : Class
  Facts : Class
  Variables : Class

-- `rule P G -> P W [: WEIGHT] [return MAP]`
pub record RuleForm : Type 0 where
  pub control : List ℕ
  pub symbol : List ℕ
  pub to : List ℕ
  pub right : List (List ℕ)
  -- the words of the weight, where there is a `:`
  pub weight : Option (List Word)
  -- what stands behind `return`, where the word is there
  pub back : Option ReturnForm

pub data LineForm : Type 0 where
  OfWeights : WeightsForm → LineForm
  OfNames : Class → List (List ℕ) → LineForm
  OfRule : RuleForm → LineForm
  -- `query PATTERN => PATTERN`
  OfQuery : (from to : PatternForm) → LineForm

-- ---- weights lines

abbrev pub weights_named : Word → Option WeightsForm
weights_named w =
    if is_name (codes "reach") w then Some ReachWeights
    else (if is_name (codes "genkill") w then Some GenKillWeights
    else (if is_name (codes "copy") w then Some CopyWeights
    else (if is_name (codes "relation") w then Some RelationWeights else None)))

abbrev pub weights_of : List Word → Option WeightsForm
weights_of (w ∷ []) = weights_named w
weights_of (w ∷ Number n ∷ []) =
    if is_name (codes "cost") w then Some (CostWeights n) else None
weights_of _ = None

-- ---- names lines: one name or more, none of them reserved

abbrev pub names_of : List Word → Option (List (List ℕ))
names_of ws = do
  names ← each_of_some name_of ws
  guarded (not (list_any is_reserved names)) (Some names)

-- ---- rules

-- what stands behind the word `return`, if the word is there
abbrev pub return_behind : List Word → Option (Option ReturnForm)
return_behind ws =
    elim (behind is_return ws) [ None ↦ Some None | Some vs ↦ option_map Some (return_of vs) ]

-- The right side, the weight and the return, behind the rule's second control.
abbrev pub rule_with : (p g q : List ℕ) → List Word → Option RuleForm
rule_with p g q ws =
    let text = before is_return ws in
    do
      right ← each name_of (before is_colon text)
      back ← return_behind ws
      guarded (nat_le (length right) most_pushed) (Some (record {
        control = p;
        symbol = g;
        to = q;
        right = right;
        weight = behind is_colon text;
        back = back;
      }))

abbrev pub rule_of : List Word → Option RuleForm
rule_of (Name p ∷ Name g ∷ Sign Arrow ∷ Name q ∷ ws) = rule_with p g q ws
rule_of _ = None

-- ---- queries

abbrev pub query_of : List Word → Option LineForm
query_of ws = do
  from ← pattern_of (before is_implies ws)
  text ← behind is_implies ws
  to ← pattern_of text
  Some (OfQuery from to)

-- ---- all lines but the header

-- behind the word with which a line begins
abbrev pub form_behind : Word → List Word → Option LineForm
form_behind w ws =
    if is_name (codes "weights") w then option_map OfWeights (weights_of ws)
    else (if is_name (codes "controls") w then option_map (OfNames Controls) (names_of ws)
    else (if is_name (codes "symbols") w then option_map (OfNames Symbols) (names_of ws)
    else (if is_name (codes "facts") w then option_map (OfNames Facts) (names_of ws)
    else (if is_name (codes "variables") w then option_map (OfNames Variables) (names_of ws)
    else (if is_name (codes "rule") w then option_map OfRule (rule_of ws)
    else (if is_name (codes "query") w then query_of ws else None))))))

-- The form that words have, leaving aside where their line stands. No name is longer than a form
-- takes, and no number has a leading zero.
abbrev pub form_of : List Word → Option LineForm
form_of [] = None
form_of (w ∷ ws) = guarded (list_all is_lawful_word (w ∷ ws)) (form_behind w ws)

-- the words of a line, if it is cut wholly into tokens
abbrev pub line_words : List ℕ → Option (List Word)
line_words line = text_words line

-- the form of a line, if it has one
abbrev pub line_form : List ℕ → Option LineForm
line_form line = option_and_then form_of (line_words line)

-- ---- the headers of the two languages

-- the words are `NAME 1`
abbrev pub is_first_version : List ℕ → List Word → Bool
is_first_version x (w ∷ Number n ∷ []) = is_name x w && bytes_eq n (codes "1")
is_first_version x _ = false

abbrev pub is_header : List Word → Bool
is_header ws = is_first_version (codes "wpds") ws
