-- Rules by their words.
use Rattle.std.specs.Prelude.{◌≡◌, ℕ, Bool, true, false, not, ◌&&◌, ◌||◌, ◌==◌, nat_le, List, [], ◌∷◌, ◌++◌, length, map, Option, None, Some, is_some, option_map, unwrap_or, MatchOption}
use Rattle.wpds_base.specs.Faults.{first_fault}
use Rattle.wpds_base.specs.Limits.{most_rules}
use Rattle.wpds_port.specs.declared.Kind.{Kind}
use Rattle.wpds_port.specs.declared.Kind.TheVariants.{Twice, Unknown, WeightText as WeightKind, Return, Count}
use Rattle.wpds_port.specs.declared.Word.{Word}
use Rattle.document_forms.specs.declared.weight.WeightsLine.{WeightsLine}
use Rattle.wpds_port.specs.declared.Word.TheVariants.{Name}
use Rattle.document_forms.specs.Words.{before, behind, is_colon, is_return}
use Rattle.document_forms.specs.Returns.{ReturnForm, PlainReturn, return_of}
use Rattle.document_forms.specs.declared.weight.WeightText.{WeightText}
use Rattle.document_forms.specs.declared.weight.WeightText.TheVariants.{One}
use Rattle.document_forms.specs.Names.{has_unknown, number_in}
use Rattle.document_forms.specs.Forms.{RuleForm}
use Rattle.document_forms.specs.Above.{Above}
use Rattle.document_forms.specs.Kinds.{rule_weight}
use Rattle.rule_reader.specs.WeightReads.{IsRead}
use Rattle.rule_reader.specs.declared.weights.WeightRead.{WeightRead}
use Rattle.rule_reader.specs.NameReads.{AreNumbersRead}
use Rattle.rule_reader.specs.private.Returns.{IsReadReturn}
use Rattle.rule_reader.specs.declared.returns.ReturnRead.{ReturnRead}
use Rattle.rule_reader.specs.declared.rules.RuleEnd.{RuleEnd}
use Rattle.rule_reader.specs.declared.rules.Ends.{Ends}
use Rattle.rule_reader.specs.declared.rules.RuleParts.{RuleParts}

-- ---- the form

-- the words of the right side, and those of the weight, behind the rule's second control

abbrev pub right_words : List Word → List Word
right_words ws = before is_colon (before is_return ws)

abbrev pub weight_words : List Word → Option (List Word)
weight_words ws = behind is_colon (before is_return ws)

-- a name stands in front that is not `return`
abbrev pub goes_on_right : List Word → Bool
goes_on_right (Name x ∷ ws) = not (is_return (Name x))
goes_on_right _ = false

-- The words are those names of a right side, and then these.
pub record HasRight (ws : List Word) (xs : List (List ℕ)) (rest : List Word) : Type 0 where
  pub right : right_words ws ≡ map (λ x. Name x) xs ++ right_words rest
  pub weight : weight_words ws ≡ weight_words rest
  pub back : behind is_return ws ≡ behind is_return rest

-- Behind the right side this comes.
pub record IsEnd (ws : List Word) (e : RuleEnd) : Type 0 where
  pub right : right_words ws ≡ []
  pub weight : e.weight ≡ weight_words ws
  pub back : e.back ≡ behind is_return ws

-- the return behind the word `return`, if the word is there
abbrev pub back_said : Option (List Word) → Option (Option ReturnForm)
back_said None = Some None
back_said (Some ws) = option_map Some (return_of ws)

-- ---- what is read

-- The return of a rule is read, if there is one.
abbrev pub IsBackRead : WeightsLine → List (List ℕ) → Option (List Word) → Option ReturnRead → Type 0
IsBackRead u items back read =
    MatchOption read (back_said back ≡ None)
    (λ r. (f : Option ReturnForm) × (back_said back ≡ Some f) × IsReadReturn u items (unwrap_or f PlainReturn) r)

-- The names of a rule but those of its right side, its weight and its return: whether one is unknown,
-- and their numbers if none is.
pub record AreEnds (a : Above) (f : RuleForm) (e : Ends) : Type 0 where
  pub unknown : e.unknown
      ≡ (has_unknown a.controls (f.control ∷ f.to ∷ []) || has_unknown a.symbols (f.symbol ∷ []))
  pub control : e.unknown ≡ false → e.control ≡ number_in a.controls f.control
  pub symbol : e.unknown ≡ false → e.symbol ≡ number_in a.symbols f.symbol
  pub to : e.unknown ≡ false → e.to ≡ number_in a.controls f.to

-- The parts of a rule are read, below what is said above it.
pub record AreParts (a : Above) (f : RuleForm) (p : RuleParts) : Type 0 where
  pub ends : AreEnds a f p.ends
  pub right : AreNumbersRead a.symbols f.right p.right
  pub weight : IsRead a.items (rule_weight a.weights f.weight) p.weight
  pub back : IsReadReturn a.weights a.items (unwrap_or f.back PlainReturn) p.back
  pub given : p.given ≡ is_some f.back
  pub full : p.full ≡ nat_le most_rules a.rules

-- ---- what is amiss with the parts

abbrev pub weight_unknown : Option WeightRead → Bool
weight_unknown None = false
weight_unknown (Some r) = r.faults.unknown

abbrev pub weight_amiss : Option WeightRead → Bool
weight_amiss None = true
weight_amiss (Some r) = r.faults.unlawful

abbrev pub weight_deep : Option WeightRead → Bool
weight_deep None = false
weight_deep (Some r) = r.faults.deep

abbrev pub is_unknown : RuleParts → Bool
is_unknown p = (p.ends.unknown || p.right.unknown) || (weight_unknown p.weight || p.back.unknown)

abbrev pub is_misplaced : RuleParts → Bool
is_misplaced p = (p.given && not (length p.right.numbers.items == 2)) || p.back.foreign

abbrev pub parts_kind : RuleParts → Option Kind
parts_kind p =
    first_fault
    ((p.back.twice, Twice) ∷ (is_unknown p, Unknown) ∷ (weight_amiss p.weight, WeightKind)
    ∷ (is_misplaced p, Return) ∷ (weight_deep p.weight || p.full, Count) ∷ [])

-- the weight that is kept, if the words are one
abbrev pub weight_kept : Option WeightRead → WeightText
weight_kept None = One
weight_kept (Some r) = r.value
