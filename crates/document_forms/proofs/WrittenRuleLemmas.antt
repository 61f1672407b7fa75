-- A rule is read as it is written, where its weight is.
use Rattle.std.proofs.Common.{◌≡◌, ℕ, ◌<◌, ◌≤◌, Bool, true, false, not, ◌&&◌, ◌||◌, ◌==◌, List, [], ◌∷◌, ◌++◌, map, length, Option, Some, None, refl, sym, ap, ap₂, ◌∙◌, subst}
use Rattle.std.specs.Prelude.{All, codes, nat_le, unwrap_or, option_map, is_some, is_none}
use Rattle.std.proofs.lemmas.Bool.{and_from, or_from, le-leb}
use Rattle.std.proofs.lemmas.List.{length-map}
use Rattle.wpds_base.specs.Faults.{first_fault}
use Rattle.wpds_base.specs.Limits.{most_pushed, most_rules}
use Rattle.wpds_base.specs.Lists.{IsOnce}
use Rattle.wpds_port.specs.declared.Kind.TheVariants.{Twice, Unknown, WeightText as WeightKind, Return, Count}
use Rattle.wpds_port.specs.declared.Mark.TheVariants.{Arrow}
use Rattle.wpds_port.specs.declared.Word.{Word}
use Rattle.wpds_port.specs.declared.Word.TheVariants.{Name, Mark as Sign}
use Rattle.document_forms.specs.declared.weight.WeightsLine.{WeightsLine}
use Rattle.document_forms.specs.declared.weight.WeightText.{WeightText}
use Rattle.document_forms.specs.declared.weight.WeightText.TheVariants.{One}
use Rattle.document_forms.specs.declared.document.RuleLine.{RuleLine}
use Rattle.document_forms.specs.Names.{has_unknown, number_in, name}
use Rattle.document_forms.specs.Words.{is_return}
use Rattle.document_forms.specs.Returns.{PlainReturn}
use Rattle.document_forms.specs.Weights.{WeightForm}
use Rattle.document_forms.specs.Forms.{RuleForm, OfRule}
use Rattle.document_forms.specs.FormWords.{weight_words, back_words, right_words, rule_words, form_words, has_none, is_back, is_rule_form}
use Rattle.document_forms.specs.Above.{Above}
use Rattle.document_forms.specs.Kinds.{weight_names, is_unlawful, is_deep, rule_weight, has_map_twice, map_names, is_foreign_map, has_unknown_name, rule_conditions}
use Rattle.document_forms.specs.Documents.{Document, weight_value, map_value, rule_value}
use Rattle.document_forms.specs.Writing.{weight_texts, map_texts, rule_text}
use Rattle.document_forms.specs.Lawful.{IsName, IsRuleOf, HasMap}
use Rattle.document_forms.proofs.FormLemmas.{none_append}
use Rattle.document_forms.proofs.WrittenWordLemmas.{Says, says_word, says_spaced, SayAll, say_more, say_both}
use Rattle.document_forms.proofs.WrittenNameLemmas.{name_among, number_named, numbers_named, known_more, names_known, says_named, say_named}
use Rattle.document_forms.proofs.WrittenMapLemmas.{no_words, map_form, say_map, map_is_back, map_once, map_known, map_allowed, value_map}
use Rattle.document_forms.proofs.WrittenQueryLemmas.{not_full}

-- The form of a weight as it is written: its words, and what is read of them.
pub record WeightIs (u : WeightsLine) (names : List (List ℕ)) (w : WeightText) : Type 0 where
  pub words : Option (List Word)
  pub form : WeightForm
  pub says : SayAll (weight_texts names w) (weight_words words)
  pub stays : has_none is_return (weight_words words) ≡ true
  pub reads : rule_weight u words ≡ Some form
  pub known : has_unknown names (weight_names form) ≡ false
  pub lawful : is_unlawful form ≡ false
  pub shallow : is_deep form ≡ false
  pub value : weight_value names form ≡ w

-- a document with so many rules and queries above a line
abbrev pub above_at : Document → (rules queries : ℕ) → Above
above_at d m n = record {
  weights = d.weights;
  controls = d.controls;
  symbols = d.symbols;
  items = d.items;
  rules = m;
  queries = n;
}

abbrev pub rule_form : (d : Document) (r : RuleLine) → WeightIs d.weights d.items r.weight → RuleForm
rule_form d r w = record {
  control = name d.controls r.control;
  symbol = name d.symbols r.symbol;
  to = name d.controls r.to;
  right = map (name d.symbols) r.right;
  weight = w.words;
  back = map_form d.items r.map;
}

module _
    (d : Document) (controls_named : All IsName d.controls) (symbols_named : All IsName d.symbols) (items_named : All IsName d.items)
    (controls_once : IsOnce d.controls) (symbols_once : IsOnce d.symbols) (items_once : IsOnce d.items)
    (r : RuleLine) (h : IsRuleOf d r) (w : WeightIs d.weights d.items r.weight) where
  abbrev form : RuleForm
  form = rule_form d r w

  pub says_rule : Says (rule_text d r) (form_words (OfRule form))
  says_rule =
      let right = map (name d.symbols) r.right in
      let rest = right ++ weight_texts d.items r.weight ++ map_texts d.items r.map in
      let words = right_words form ++ back_words form.back in
      says_spaced (codes "rule" ∷ name d.controls r.control ∷ name d.symbols r.symbol ∷ codes "->" ∷ name d.controls r.to ∷ rest) (form_words (OfRule form))
      (say_more (codes "rule") (name d.controls r.control ∷ name d.symbols r.symbol ∷ codes "->" ∷ name d.controls r.to ∷ rest)
      (Name (codes "rule") ∷ []) (rule_words form) (says_word (Name (codes "rule")) refl refl)
      (say_more (name d.controls r.control) (name d.symbols r.symbol ∷ codes "->" ∷ name d.controls r.to ∷ rest)
      (Name form.control ∷ []) (Name form.symbol ∷ Sign Arrow ∷ Name form.to ∷ words) (says_named d.controls r.control controls_named h.control)
      (say_more (name d.symbols r.symbol) (codes "->" ∷ name d.controls r.to ∷ rest)
      (Name form.symbol ∷ []) (Sign Arrow ∷ Name form.to ∷ words) (says_named d.symbols r.symbol symbols_named h.symbol)
      (say_more (codes "->") (name d.controls r.to ∷ rest)
      (Sign Arrow ∷ []) (Name form.to ∷ words) (says_word (Sign Arrow) refl refl)
      (say_more (name d.controls r.to) rest
      (Name form.to ∷ []) words (says_named d.controls r.to controls_named h.to)
      (say_both (right ++ weight_texts d.items r.weight) (map_texts d.items r.map) (right_words form) (back_words form.back)
      (say_both right (weight_texts d.items r.weight) (map Name right) (weight_words w.words) (say_named d.symbols r.right symbols_named h.right) w.says)
      (say_map d.items items_named items_once d.weights r.right r.map h.map)))))))

  pub form_rule : HasMap r.map → is_rule_form form ≡ true
  form_rule m =
      and_from (nat_le (length form.right) most_pushed) (has_none is_return (right_words form) && is_back form.back)
      (le-leb (length form.right) most_pushed (subst (λ n. n ≤ most_pushed) (sym (length-map r.right (name d.symbols))) h.short))
      (and_from (has_none is_return (right_words form)) (is_back form.back)
      (none_append is_return (map Name form.right) (weight_words w.words) (no_words (codes "return") d.symbols r.right refl symbols_named h.right) w.stays)
      (map_is_back d.items items_named items_once d.weights r.right r.map h.map m))

  pub rule_accepted : (m n : ℕ) → m < most_rules → first_fault (rule_conditions (above_at d m n) form) ≡ None
  rule_accepted m n few =
      let a = above_at d m n in
      let back = unwrap_or form.back PlainReturn in
      let weight = rule_weight d.weights w.words in
      none5 (has_map_twice back) (has_unknown_name a form weight back) (is_none weight || unwrap_or (option_map is_unlawful weight) false) ((is_some form.back && not (length form.right == 2)) || is_foreign_map d.weights back) (unwrap_or (option_map is_deep weight) false || nat_le most_rules m)
      (map_once d.items items_named items_once d.weights r.right r.map h.map)
      (none4 (has_unknown d.controls (form.control ∷ form.to ∷ [])) (has_unknown d.symbols (form.symbol ∷ form.right)) (has_unknown d.items (unwrap_or (option_map weight_names weight) [])) (has_unknown d.items (map_names d.weights back))
      (known_more d.controls form.control (form.to ∷ []) (name_among d.controls r.control h.control) (known_more d.controls form.to [] (name_among d.controls r.to h.to) refl))
      (known_more d.symbols form.symbol form.right (name_among d.symbols r.symbol h.symbol) (names_known d.symbols r.right h.right))
      (subst (λ o. has_unknown d.items (unwrap_or (option_map weight_names o) []) ≡ false) (sym w.reads) w.known)
      (map_known d.items items_named items_once d.weights r.right r.map h.map))
      (subst (λ o. (is_none o || unwrap_or (option_map is_unlawful o) false) ≡ false) (sym w.reads) w.lawful)
      (map_allowed d.items items_named items_once d.weights r.right r.map h.map (length form.right) (length-map r.right (name d.symbols)))
      (or_from (unwrap_or (option_map is_deep weight) false) (nat_le most_rules m)
      (subst (λ o. unwrap_or (option_map is_deep o) false ≡ false) (sym w.reads) w.shallow) (not_full most_rules m few))
    where
      none4 : (x y z t : Bool) → x ≡ false → y ≡ false → z ≡ false → t ≡ false → (x || y || z || t) ≡ false
      none4 x y z t e f g i = rw (e, f, g, i) refl

      none5 : (x y z s t : Bool) → x ≡ false → y ≡ false → z ≡ false → s ≡ false → t ≡ false → first_fault ((x, Twice) ∷ (y, Unknown) ∷ (z, WeightKind) ∷ (s, Return) ∷ (t, Count) ∷ []) ≡ None
      none5 x y z s t e f g i j = rw (e, f, g, i, j) refl

  pub value_rule : (m n : ℕ) → rule_value (above_at d m n) form ≡ r
  value_rule m n =
      let weight = unwrap_or (option_map (weight_value d.items) (rule_weight d.weights w.words)) One in
      let back = map_value d.items (unwrap_or form.back PlainReturn) in
      ap₂ (λ c s. record { control = c; symbol = s; to = number_in d.controls form.to; right = map (number_in d.symbols) form.right; weight = weight; map = back })
      (number_named d.controls r.control controls_once h.control) (number_named d.symbols r.symbol symbols_once h.symbol)
      ∙ ap₂ (λ t xs. record { control = r.control; symbol = r.symbol; to = t; right = xs; weight = weight; map = back })
      (number_named d.controls r.to controls_once h.to) (numbers_named d.symbols r.right symbols_once h.right)
      ∙ ap₂ (λ x b. record { control = r.control; symbol = r.symbol; to = r.to; right = r.right; weight = x; map = b })
      (ap (λ o. unwrap_or (option_map (weight_value d.items) o) One) w.reads ∙ w.value)
      (value_map d.items items_named items_once d.weights r.right r.map h.map)
