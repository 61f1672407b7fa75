-- Weights that copy variables are read as they are written.
use Rattle.std.proofs.Common.{◌≡◌, ◌≢◌, ℕ, suc, ◌^◌, ◌<◌, Bool, true, false, not, cond, ◌==◌, List, [], ◌∷◌, ◌++◌, map, length, Option, Some, None, refl, sym, ap, ap₂, ◌∙◌, subst, append_assoc, append-nil, arith, decimal, ℤ, pos, negsuc, neg_ℤ}
use Rattle.std.specs.Prelude.{All, IfSome, bytes_eq, codes, flat_map, nat_le, nat_lt, option_map}
use Rattle.std.specs.Fmt.{signed_decimal}
use Rattle.std.specs.List.{list_all, list_any}
use Rattle.std.proofs.lemmas.Bool.{and_parts, and_from, or_from, not-true, false_from_ne_true, eqb-true}
use Rattle.std.proofs.lemmas.List.Elements.{All-nil, All-cons, All-head, All-tail}
use Rattle.wpds_base.specs.Lists.{IsOnce}
use Rattle.wpds_port.specs.declared.Mark.TheVariants.{Colon, Minus, Equal, Question, Comma}
use Rattle.wpds_port.specs.declared.Word.{Word}
use Rattle.wpds_port.specs.declared.Word.TheVariants.{Name, Number, Mark as Sign}
use Rattle.wpds_port.specs.Tokens.{is_digit, is_number_text, is_lawful_word, stops}
use Rattle.document_forms.specs.declared.weight.WeightsLine.TheVariants.{Copy}
use Rattle.document_forms.specs.declared.weight.FormText.{FormText}
use Rattle.document_forms.specs.declared.weight.FormText.TheVariants.{Varying, Meet}
use Rattle.document_forms.specs.declared.weight.VariableForm.{VariableForm}
use Rattle.document_forms.specs.declared.weight.WeightText.TheVariants.{Forms}
use Rattle.document_forms.specs.Lines.{in_front}
use Rattle.document_forms.specs.Names.{has_twice, has_unknown, name}
use Rattle.document_forms.specs.Words.{is_comma, is_equal, is_return, begins_pair, pairs, parted, each}
use Rattle.document_forms.specs.Weights.{PartForm, OfVariable, OfNumber, PartsForm, VaryingParts, Undefined, Parts, PairForm, PairsForm, part_of, named_part, parts_of, pair_of, pairs_in, copy_of}
use Rattle.document_forms.specs.FormWords.{has_none}
use Rattle.document_forms.specs.Kinds.{part_names, parts_names, weight_names, is_wide_part, has_wide_part, rule_weight}
use Rattle.document_forms.specs.Documents.{constants_in, variables_in, one_constant, bits_at, meet_of, parts_value, pair_value}
use Rattle.document_forms.specs.Writing.{listed, members, constant_texts, or_undef, form_text, pair_text}
use Rattle.document_forms.specs.Lawful.{AreBelow, AreSome, IsName, IsConstant, IsFormText}
use Rattle.document_forms.proofs.FormLemmas.{none_append}
use Rattle.document_forms.proofs.WrittenWordLemmas.{Says, says_word, says_glued, SayAll, say_more}
use Rattle.document_forms.proofs.LawfulLemmas.{known_both, unmapped_some}
use Rattle.document_forms.proofs.WrittenNameLemmas.{number_named, name_among, known_more, names_known, none_named_twice, name_at, says_named, says_number, number_written, decimal_text}
use Rattle.document_forms.proofs.WrittenMapLemmas.{no_word, other_word, equal_stops}
use Rattle.document_forms.proofs.WrittenQueryLemmas.{not_full, not_more}
use Rattle.document_forms.proofs.WrittenRuleLemmas.{WeightIs}
use Rattle.document_forms.proofs.WrittenListLemmas.{SayEach, between, says_listed, NoneHas, parted_between, none_between, each_again, fronted, fronted_first}
use Rattle.document_forms.proofs.WrittenBitLemmas.{bits_again, set_below}

-- ---- numbers with a sign

digit_other : (b c : ℕ) → is_digit c ≡ false → is_digit b ≡ true → not (b == c) ≡ true
digit_other b c f h = ap not (false_from_ne_true (b == c) (λ e. differ (sym h ∙ ap is_digit (eqb-true b c e) ∙ f)))
  where
    differ : true ≡ false → ⊥
    differ e = cc

minus_digits : (x rest : List ℕ) → is_number_text x ≡ true → stops (Sign Minus) (x ++ rest) ≡ true
minus_digits [] rest h = cc
minus_digits (b ∷ x) rest h = digit_other b 62 refl (and_parts (is_digit b) (list_all is_digit x) h).0

equal_digits : (x rest : List ℕ) → is_number_text x ≡ true → stops (Sign Equal) (x ++ rest) ≡ true
equal_digits [] rest h = cc
equal_digits (b ∷ x) rest h = digit_other b 62 refl (and_parts (is_digit b) (list_all is_digit x) h).0

-- behind `=` a text that does not begin with `>`
abbrev AfterEqual : List ℕ → Type 0
AfterEqual x = (rest : List ℕ) → stops (Sign Equal) (x ++ rest) ≡ true

abbrev part_words : PartForm → List Word
part_words (OfVariable x) = Name x ∷ []
part_words (OfNumber false n) = Number n ∷ []
part_words (OfNumber true n) = Sign Minus ∷ Number n ∷ []

part_again : (p : PartForm) → part_of (part_words p) ≡ Some p
part_again (OfVariable x) = refl
part_again (OfNumber false n) = refl
part_again (OfNumber true n) = refl

part_no_comma : (p : PartForm) → has_none is_comma (part_words p) ≡ true
part_no_comma (OfVariable x) = refl
part_no_comma (OfNumber false n) = refl
part_no_comma (OfNumber true n) = refl

part_no_equal : (p : PartForm) → has_none is_equal (part_words p) ≡ true
part_no_equal (OfVariable x) = refl
part_no_equal (OfNumber false n) = refl
part_no_equal (OfNumber true n) = refl

none_in_parts : (test : Word → Bool) → ((p : PartForm) → has_none test (part_words p) ≡ true) → (ps : List PartForm) → NoneHas test (map part_words ps)
none_in_parts test f [] = tt
none_in_parts test f (p ∷ ps) = (f p, none_in_parts test f ps)

abbrev constant_part : ℤ → PartForm
constant_part (pos n) = OfNumber false (decimal n)
constant_part (negsuc n) = OfNumber true (decimal (suc n))

abbrev constant_parts : Option ℤ → List PartForm
constant_parts None = []
constant_parts (Some c) = constant_part c ∷ []

says_constant : (c : ℤ) → IsConstant c → Says (signed_decimal c) (part_words (constant_part c))
says_constant (pos n) h = says_number n (omega arith)
says_constant (negsuc n) h =
    says_glued (Sign Minus) (decimal (suc n)) (Number (decimal (suc n)) ∷ []) refl refl (λ rest. minus_digits (decimal (suc n)) rest (decimal_text (suc n) (omega arith))) (says_number (suc n) (omega arith))

constant_after : (c : ℤ) → IsConstant c → AfterEqual (signed_decimal c)
constant_after (pos n) h rest = equal_digits (decimal n) rest (decimal_text n (omega arith))
constant_after (negsuc n) h rest = refl

constant_narrow : (c : ℤ) → IsConstant c → is_wide_part (constant_part c) ≡ false
constant_narrow (pos n) h = ap (λ k. nat_le (2 ^ 63) k) (number_written n (omega arith)) ∙ not_full (2 ^ 63) n h
constant_narrow (negsuc n) h = ap (λ k. nat_lt (2 ^ 63) k) (number_written (suc n) (omega arith)) ∙ not_more (2 ^ 63) (suc n) (omega arith)

constant_value : (c : ℤ) → IsConstant c → constants_in (constant_part c) ≡ c ∷ []
constant_value (pos n) h = ap (λ k. pos k ∷ []) (number_written n (omega arith))
constant_value (negsuc n) h = ap (λ k. neg_ℤ (pos k) ∷ []) (number_written (suc n) (omega arith))

constant_no_return : (c : ℤ) → has_none is_return (part_words (constant_part c)) ≡ true
constant_no_return (pos n) = refl
constant_no_return (negsuc n) = refl

constant_no_variable : (names : List (List ℕ)) (c : ℤ) → variables_in names (constant_part c) ≡ []
constant_no_variable names (pos n) = refl
constant_no_variable names (negsuc n) = refl

constant_no_name : (c : ℤ) → part_names (constant_part c) ≡ []
constant_no_name (pos n) = refl
constant_no_name (negsuc n) = refl

module _ (names : List (List ℕ)) (named : All IsName names) (once : IsOnce names) where
  -- ---- the parts of a form

  abbrev variable_parts : List ℕ → List PartForm
  variable_parts ks = map OfVariable (map (name names) ks)

  abbrev meet_parts : Option ℤ → List ℕ → List PartForm
  meet_parts c ks = constant_parts c ++ variable_parts ks

  abbrev undefined_or : List PartForm → PartsForm
  undefined_or [] = Undefined
  undefined_or (p ∷ ps) = Parts (p ∷ ps)

  abbrev parts_form : FormText → PartsForm
  parts_form Varying = VaryingParts
  parts_form (Meet c bits) = undefined_or (meet_parts c (members names bits))

  abbrev undefined_words : List PartForm → List Word
  undefined_words [] = Name (codes "undef") ∷ []
  undefined_words (p ∷ ps) = between (Sign Comma) (map part_words (p ∷ ps))

  abbrev form_words : FormText → List Word
  form_words Varying = Sign Question ∷ []
  form_words (Meet c bits) = undefined_words (meet_parts c (members names bits))

  members_below : (bits : ℕ) → AreBelow (length names) (members names bits)
  members_below bits = set_below bits (length names) 0 (length names) (omega arith)

  -- the words

  say_variables : (ks : List ℕ) → AreBelow (length names) ks → SayEach (map (name names) ks) (map part_words (variable_parts ks))
  say_variables [] b = tt
  say_variables (k ∷ ks) b = (says_named names k named (All-head (λ n. n < length names) k ks b), say_variables ks (All-tail (λ n. n < length names) k ks b))

  say_parts : (c : Option ℤ) (ks : List ℕ) → IfSome c IsConstant → AreBelow (length names) ks → SayEach (constant_texts names c ++ map (name names) ks) (map part_words (meet_parts c ks))
  say_parts None ks h b = say_variables ks b
  say_parts (Some c) ks h b = (says_constant c h, say_variables ks b)

  says_meet : (ts : List (List ℕ)) (ps : List PartForm) → SayEach ts (map part_words ps) → Says (or_undef names ts) (undefined_words ps)
  says_meet [] [] h = says_word (Name (codes "undef")) refl refl
  says_meet [] (p ∷ ps) h = absurd h
  says_meet (t ∷ ts) [] h = absurd h
  says_meet (t ∷ ts) (p ∷ ps) h = says_listed (t ∷ ts) (map part_words (p ∷ ps)) h

  says_form : (f : FormText) → IsFormText (length names) f → Says (form_text names f) (form_words f)
  says_form Varying h = says_word (Sign Question) refl refl
  says_form (Meet c bits) h = says_meet (constant_texts names c ++ map (name names) (members names bits)) (meet_parts c (members names bits)) (say_parts c (members names bits) h.0 (members_below bits))

  -- what stands behind `=`

  listed_after : (t : List ℕ) (ts : List (List ℕ)) → AfterEqual t → AfterEqual (listed (t ∷ ts))
  listed_after t [] h rest = h rest
  listed_after t (u ∷ []) h rest =
      subst (λ x. stops (Sign Equal) x ≡ true) (sym (append_assoc (t ++ codes ",") (32 ∷ u) rest ∙ append_assoc t (codes ",") (32 ∷ u ++ rest)))
      (h (codes "," ++ (32 ∷ u ++ rest)))
  listed_after t (u ∷ v ∷ ts) h rest =
      let more = listed (u ∷ v ∷ ts) in
      subst (λ x. stops (Sign Equal) x ≡ true) (sym (append_assoc (t ++ codes ",") (32 ∷ more) rest ∙ append_assoc t (codes ",") (32 ∷ more ++ rest)))
      (h (codes "," ++ (32 ∷ more ++ rest)))

  variables_after : (ks : List ℕ) → AreBelow (length names) ks → AfterEqual (or_undef names (map (name names) ks))
  variables_after [] b = λ rest. refl
  variables_after (k ∷ ks) b =
      listed_after (name names k) (map (name names) ks) (λ rest. equal_stops (name names k) rest (name_at names k named (All-head (λ n. n < length names) k ks b)).text)

  form_after : (f : FormText) → IsFormText (length names) f → AfterEqual (form_text names f)
  form_after Varying h = λ rest. refl
  form_after (Meet None bits) h = variables_after (members names bits) (members_below bits)
  form_after (Meet (Some c) bits) h = listed_after (signed_decimal c) (map (name names) (members names bits)) (constant_after c h.0)

  -- what is read of the words

  parts_again : (ps : List PartForm) (p : PartForm) → each part_of (parted is_comma (between (Sign Comma) (map part_words (p ∷ ps)))) ≡ Some (p ∷ ps)
  parts_again ps p =
      ap (each part_of) (parted_between is_comma (Sign Comma) refl (part_words p) (map part_words ps) (none_in_parts is_comma part_no_comma (p ∷ ps)))
      ∙ each_again part_of part_words (λ _. Unit {0}) (λ q _. part_again q) (p ∷ ps) (all_parts (p ∷ ps))
    where
      all_parts : (qs : List PartForm) → All (λ _. Unit {0}) qs
      all_parts [] = All-nil (λ _. Unit {0})
      all_parts (q ∷ qs) = All-cons (λ _. Unit {0}) q qs tt (all_parts qs)

  -- no part that is a name is `undef`
  abbrev IsOwnPart : PartForm → Type 0
  IsOwnPart (OfVariable x) = IsName x
  IsOwnPart (OfNumber negative n) = Unit {0}

  own_name : (x : List ℕ) → IsName x → named_part x ≡ Parts (OfVariable x ∷ [])
  own_name x h =
      ap (λ t. cond t Undefined (Parts (OfVariable x ∷ []))) (other_word x (codes "undef") refl h)

  many_again : (p q : PartForm) (ps : List PartForm) → parts_of (between (Sign Comma) (map part_words (p ∷ q ∷ ps))) ≡ option_map Parts (each part_of (parted is_comma (between (Sign Comma) (map part_words (p ∷ q ∷ ps)))))
  many_again (OfVariable x) q ps = refl
  many_again (OfNumber false n) q ps = refl
  many_again (OfNumber true n) q ps = refl

  undefined_again : (ps : List PartForm) → All IsOwnPart ps → parts_of (undefined_words ps) ≡ Some (undefined_or ps)
  undefined_again [] h = refl
  undefined_again (OfVariable x ∷ []) h = ap Some (own_name x (All-head IsOwnPart (OfVariable x) [] h))
  undefined_again (OfNumber false n ∷ []) h = refl
  undefined_again (OfNumber true n ∷ []) h = refl
  undefined_again (p ∷ q ∷ ps) h = many_again p q ps ∙ ap (option_map Parts) (parts_again (q ∷ ps) p)

  own_variables : (ks : List ℕ) → AreBelow (length names) ks → All IsOwnPart (variable_parts ks)
  own_variables [] b = All-nil IsOwnPart
  own_variables (k ∷ ks) b = All-cons IsOwnPart (OfVariable (name names k)) (variable_parts ks) (name_at names k named (All-head (λ n. n < length names) k ks b)) (own_variables ks (All-tail (λ n. n < length names) k ks b))

  own_parts : (c : Option ℤ) (ks : List ℕ) → AreBelow (length names) ks → All IsOwnPart (meet_parts c ks)
  own_parts None ks b = own_variables ks b
  own_parts (Some (pos n)) ks b = All-cons IsOwnPart (OfNumber false (decimal n)) (variable_parts ks) tt (own_variables ks b)
  own_parts (Some (negsuc n)) ks b = All-cons IsOwnPart (OfNumber true (decimal (suc n))) (variable_parts ks) tt (own_variables ks b)

  form_again : (f : FormText) → parts_of (form_words f) ≡ Some (parts_form f)
  form_again Varying = refl
  form_again (Meet c bits) = undefined_again (meet_parts c (members names bits)) (own_parts c (members names bits) (members_below bits))

  -- what is asked of it, and what it says

  variables_known : (ks : List ℕ) → flat_map part_names (variable_parts ks) ≡ map (name names) ks
  variables_known [] = refl
  variables_known (k ∷ ks) = ap (λ xs. name names k ∷ xs) (variables_known ks)

  parts_known : (c : Option ℤ) (ks : List ℕ) → flat_map part_names (meet_parts c ks) ≡ map (name names) ks
  parts_known None ks = variables_known ks
  parts_known (Some c) ks = ap (λ xs. xs ++ flat_map part_names (variable_parts ks)) (constant_no_name c) ∙ variables_known ks

  undefined_names : (ps : List PartForm) → parts_names (undefined_or ps) ≡ flat_map part_names ps
  undefined_names [] = refl
  undefined_names (p ∷ ps) = refl

  form_known : (f : FormText) → has_unknown names (parts_names (parts_form f)) ≡ false
  form_known Varying = refl
  form_known (Meet c bits) =
      ap (has_unknown names) (undefined_names (meet_parts c (members names bits)) ∙ parts_known c (members names bits))
      ∙ names_known names (members names bits) (members_below bits)

  variables_narrow : (ks : List ℕ) → list_any is_wide_part (variable_parts ks) ≡ false
  variables_narrow [] = refl
  variables_narrow (k ∷ ks) = variables_narrow ks

  parts_narrow : (c : Option ℤ) (ks : List ℕ) → IfSome c IsConstant → list_any is_wide_part (meet_parts c ks) ≡ false
  parts_narrow None ks h = variables_narrow ks
  parts_narrow (Some c) ks h = or_from (is_wide_part (constant_part c)) (list_any is_wide_part (variable_parts ks)) (constant_narrow c h) (variables_narrow ks)

  undefined_narrow : (ps : List PartForm) → list_any is_wide_part ps ≡ false → has_wide_part (undefined_or ps) ≡ false
  undefined_narrow [] h = refl
  undefined_narrow (p ∷ ps) h = h

  form_narrow : (f : FormText) → IsFormText (length names) f → has_wide_part (parts_form f) ≡ false
  form_narrow Varying h = refl
  form_narrow (Meet c bits) h = undefined_narrow (meet_parts c (members names bits)) (parts_narrow c (members names bits) h.0)

  variables_constants : (ks : List ℕ) → flat_map constants_in (variable_parts ks) ≡ []
  variables_constants [] = refl
  variables_constants (k ∷ ks) = variables_constants ks

  parts_constants : (c : Option ℤ) (ks : List ℕ) → IfSome c IsConstant → one_constant (flat_map constants_in (meet_parts c ks)) ≡ Some c
  parts_constants None ks h = ap one_constant (variables_constants ks)
  parts_constants (Some c) ks h = ap one_constant (ap₂ (λ xs ys. xs ++ ys) (constant_value c h) (variables_constants ks))

  variables_again : (ks : List ℕ) → AreBelow (length names) ks → flat_map (variables_in names) (variable_parts ks) ≡ ks
  variables_again [] b = refl
  variables_again (k ∷ ks) b = ap₂ (λ x xs. x ∷ xs) (number_named names k once (All-head (λ n. n < length names) k ks b)) (variables_again ks (All-tail (λ n. n < length names) k ks b))

  parts_variables : (c : Option ℤ) (ks : List ℕ) → AreBelow (length names) ks → flat_map (variables_in names) (meet_parts c ks) ≡ ks
  parts_variables None ks b = variables_again ks b
  parts_variables (Some c) ks b = ap (λ xs. xs ++ flat_map (variables_in names) (variable_parts ks)) (constant_no_variable names c) ∙ variables_again ks b

  undefined_value : (ps : List PartForm) → parts_value names (undefined_or ps) ≡ meet_of (one_constant (flat_map constants_in ps)) (bits_at (flat_map (variables_in names) ps))
  undefined_value [] = refl
  undefined_value (p ∷ ps) = refl

  value_form : (f : FormText) → IsFormText (length names) f → parts_value names (parts_form f) ≡ f
  value_form Varying h = refl
  value_form (Meet c bits) h =
      let ks = members names bits in
      undefined_value (meet_parts c ks)
      ∙ ap₂ meet_of (parts_constants c ks h.0) (ap bits_at (parts_variables c ks (members_below bits)) ∙ bits_again bits (length names) h.1)

  -- ---- pairs

  abbrev pair_form : VariableForm → PairForm
  pair_form p = record { variable = name names p.variable; parts = parts_form p.form }

  abbrev pair_words : VariableForm → List Word
  pair_words p = Name (name names p.variable) ∷ Sign Equal ∷ form_words p.form

  abbrev targets : List VariableForm → List ℕ
  targets ps = map (λ p. p.variable) ps

  abbrev AreForms : List VariableForm → Type 0
  AreForms ps = All (λ p. IsFormText (length names) p.form) ps

  says_pair : (p : VariableForm) → p.variable < length names → IsFormText (length names) p.form → Says (pair_text names p) (pair_words p)
  says_pair p l h =
      let x = name names p.variable in
      subst (λ z. Says z (pair_words p)) (sym (append_assoc x (codes "=") (form_text names p.form)))
      (says_glued (Name x) (61 ∷ form_text names p.form) (Sign Equal ∷ form_words p.form) (name_at names p.variable named l).text (and_parts (is_lawful_word (Name x)) true (says_named names p.variable named l).lawful).0 (λ rest. refl)
      (says_glued (Sign Equal) (form_text names p.form) (form_words p.form) refl refl (form_after p.form h) (says_form p.form h)))

  say_pairs : (ps : List VariableForm) → AreBelow (length names) (targets ps) → AreForms ps → SayAll (map (pair_text names) ps) (flat_map pair_words ps)
  say_pairs [] b h = refl
  say_pairs (p ∷ ps) b h =
      say_more (pair_text names p) (map (pair_text names) ps) (pair_words p) (flat_map pair_words ps)
      (says_pair p (All-head (λ n. n < length names) p.variable (targets ps) b) (All-head (λ q. IsFormText (length names) q.form) p ps h))
      (say_pairs ps (All-tail (λ n. n < length names) p.variable (targets ps) b) (All-tail (λ q. IsFormText (length names) q.form) p ps h))

  -- no `return` in the words

  names_stay : (ks : List ℕ) → AreBelow (length names) ks → NoneHas is_return (map part_words (variable_parts ks))
  names_stay [] b = tt
  names_stay (k ∷ ks) b = (
    and_from (not (bytes_eq (codes "return") (name names k))) true (ap not (no_word (codes "return") (name names k) refl (name_at names k named (All-head (λ n. n < length names) k ks b)))) refl,
    names_stay ks (All-tail (λ n. n < length names) k ks b),
  )

  parts_stay : (c : Option ℤ) (ks : List ℕ) → AreBelow (length names) ks → NoneHas is_return (map part_words (meet_parts c ks))
  parts_stay None ks b = names_stay ks b
  parts_stay (Some c) ks b = (constant_no_return c, names_stay ks b)

  undefined_stays : (ps : List PartForm) → NoneHas is_return (map part_words ps) → has_none is_return (undefined_words ps) ≡ true
  undefined_stays [] h = refl
  undefined_stays (p ∷ ps) h = none_between is_return (Sign Comma) refl (map part_words (p ∷ ps)) h

  form_stays : (f : FormText) → has_none is_return (form_words f) ≡ true
  form_stays Varying = refl
  form_stays (Meet c bits) = undefined_stays (meet_parts c (members names bits)) (parts_stay c (members names bits) (members_below bits))

  pairs_stay : (ps : List VariableForm) → AreBelow (length names) (targets ps) → has_none is_return (flat_map pair_words ps) ≡ true
  pairs_stay [] b = refl
  pairs_stay (p ∷ ps) b =
      and_from (not (bytes_eq (codes "return") (name names p.variable))) (has_none is_return (form_words p.form ++ flat_map pair_words ps))
      (ap not (no_word (codes "return") (name names p.variable) refl (name_at names p.variable named (All-head (λ n. n < length names) p.variable (targets ps) b))))
      (none_append is_return (form_words p.form) (flat_map pair_words ps) (form_stays p.form) (pairs_stay ps (All-tail (λ n. n < length names) p.variable (targets ps) b)))

  -- cut again into pairs

  form_no_equal : (f : FormText) → has_none is_equal (form_words f) ≡ true
  form_no_equal Varying = refl
  form_no_equal (Meet c bits) = go (meet_parts c (members names bits))
    where
      go : (ps : List PartForm) → has_none is_equal (undefined_words ps) ≡ true
      go [] = refl
      go (p ∷ ps) = none_between is_equal (Sign Comma) refl (map part_words (p ∷ ps)) (none_in_parts is_equal part_no_equal (p ∷ ps))

  abbrev no_equal_first : List Word → Bool
  no_equal_first [] = true
  no_equal_first (w ∷ ws) = not (is_equal w)

  no_pair : (w : Word) (ws : List Word) → no_equal_first ws ≡ true → begins_pair (w ∷ ws) ≡ false
  no_pair (Name x) [] h = refl
  no_pair (Name x) (w ∷ ws) h = not-true (is_equal w) h
  no_pair (Number n) ws h = refl
  no_pair (Sign m) ws h = refl

  behind_first : (ws rest : List Word) → has_none is_equal ws ≡ true → no_equal_first rest ≡ true → no_equal_first (ws ++ rest) ≡ true
  behind_first [] rest h k = k
  behind_first (w ∷ ws) rest h k = (and_parts (not (is_equal w)) (has_none is_equal ws) h).0

  pairs_before : (ws rest : List Word) → has_none is_equal ws ≡ true → no_equal_first rest ≡ true → pairs (ws ++ rest) ≡ fronted ws (pairs rest)
  pairs_before [] rest h k = refl
  pairs_before (w ∷ ws) rest h k =
      let m = and_parts (not (is_equal w)) (has_none is_equal ws) h in
      ap (λ t. cond t ([] ∷ in_front w (pairs (ws ++ rest))) (in_front w (pairs (ws ++ rest)))) (no_pair w (ws ++ rest) (behind_first ws rest m.1 k))
      ∙ ap (in_front w) (pairs_before ws rest m.1 k)

  pairs_begin : (ps : List VariableForm) → no_equal_first (flat_map pair_words ps) ≡ true
  pairs_begin [] = refl
  pairs_begin (p ∷ ps) = refl

  pairs_again : (ps : List VariableForm) → pairs (flat_map pair_words ps) ≡ [] ∷ map pair_words ps
  pairs_again [] = refl
  pairs_again (p ∷ ps) =
      let us = form_words p.form in
      ap (λ qs. [] ∷ in_front (Name (name names p.variable)) (in_front (Sign Equal) qs))
      (pairs_before us (flat_map pair_words ps) (form_no_equal p.form) (pairs_begin ps)
      ∙ ap (fronted us) (pairs_again ps) ∙ fronted_first us [] (map pair_words ps) ∙ ap (λ v. v ∷ map pair_words ps) (append-nil us))

  pair_again : (p : VariableForm) → pair_of (pair_words p) ≡ Some (pair_form p)
  pair_again p = ap (option_map (λ q. record { variable = name names p.variable; parts = q })) (form_again p.form)

  each_pair : (ps : List VariableForm) → each pair_of (map pair_words ps) ≡ Some (map pair_form ps)
  each_pair [] = refl
  each_pair (p ∷ ps) =
      ap (λ o. elim o as (λ _. Option (List PairForm)) [ None ↦ None | Some z ↦ option_map (λ zs. z ∷ zs) (each pair_of (map pair_words ps)) ]) (pair_again p)
      ∙ ap (option_map (λ zs. pair_form p ∷ zs)) (each_pair ps)

  copy_again : (ps : List VariableForm) → ps ≢ [] → copy_of (flat_map pair_words ps) ≡ Some (PairsForm (map pair_form ps))
  copy_again [] s = absurd (s refl)
  copy_again (p ∷ ps) s = ap pairs_in (pairs_again (p ∷ ps)) ∙ ap (option_map PairsForm) (each_pair (p ∷ ps))

  more_than_one : (ps : List VariableForm) → ps ≢ [] → rule_weight Copy (Some (flat_map pair_words ps)) ≡ copy_of (flat_map pair_words ps)
  more_than_one [] s = absurd (s refl)
  more_than_one (p ∷ ps) s = refl

  -- what is asked of the pairs

  pairs_known : (ps : List VariableForm) → AreBelow (length names) (targets ps) → has_unknown names (weight_names (PairsForm (map pair_form ps))) ≡ false
  pairs_known [] b = refl
  pairs_known (p ∷ ps) b =
      known_both names (name names p.variable ∷ parts_names (parts_form p.form)) (weight_names (PairsForm (map pair_form ps)))
      (known_more names (name names p.variable) (parts_names (parts_form p.form)) (name_among names p.variable (All-head (λ n. n < length names) p.variable (targets ps) b)) (form_known p.form))
      (pairs_known ps (All-tail (λ n. n < length names) p.variable (targets ps) b))

  targets_named : (ps : List VariableForm) → map (λ p. p.variable) (map pair_form ps) ≡ map (name names) (targets ps)
  targets_named [] = refl
  targets_named (p ∷ ps) = ap (λ xs. name names p.variable ∷ xs) (targets_named ps)

  pairs_narrow : (ps : List VariableForm) → AreForms ps → list_any (λ p. has_wide_part p.parts) (map pair_form ps) ≡ false
  pairs_narrow [] h = refl
  pairs_narrow (p ∷ ps) h =
      or_from (has_wide_part (parts_form p.form)) (list_any (λ q. has_wide_part q.parts) (map pair_form ps))
      (form_narrow p.form (All-head (λ q. IsFormText (length names) q.form) p ps h)) (pairs_narrow ps (All-tail (λ q. IsFormText (length names) q.form) p ps h))

  value_pairs : (ps : List VariableForm) → AreBelow (length names) (targets ps) → AreForms ps → map (pair_value names) (map pair_form ps) ≡ ps
  value_pairs [] b h = refl
  value_pairs (p ∷ ps) b h =
      ap₂ (λ x xs. x ∷ xs)
      (ap₂ (λ k f. record { variable = k; form = f }) (number_named names p.variable once (All-head (λ n. n < length names) p.variable (targets ps) b)) (value_form p.form (All-head (λ q. IsFormText (length names) q.form) p ps h)))
      (value_pairs ps (All-tail (λ n. n < length names) p.variable (targets ps) b) (All-tail (λ q. IsFormText (length names) q.form) p ps h))

  pub forms_are : (ps : List VariableForm) → AreSome (length names) (targets ps) → AreForms ps → WeightIs Copy names (Forms ps)
  forms_are ps h f = record {
    words = Some (flat_map pair_words ps);
    form = PairsForm (map pair_form ps);
    says = say_more (codes ":") (map (pair_text names) ps) (Sign Colon ∷ []) (flat_map pair_words ps) (says_word (Sign Colon) refl refl) (say_pairs ps h.below f);
    stays = pairs_stay ps h.below;
    reads = more_than_one ps (unmapped_some (λ p. p.variable) ps h.some) ∙ copy_again ps (unmapped_some (λ p. p.variable) ps h.some);
    known = pairs_known ps h.below;
    lawful =
        or_from (has_twice (map (λ p. p.variable) (map pair_form ps))) (list_any (λ p. has_wide_part p.parts) (map pair_form ps))
        (subst (λ xs. has_twice xs ≡ false) (sym (targets_named ps)) (none_named_twice names (targets ps) once h.below h.once)) (pairs_narrow ps f);
    shallow = refl;
    value = ap Forms (value_pairs ps h.below f);
  }
