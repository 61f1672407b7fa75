-- A rule by its words and by its parts.
use Rattle.std.proofs.Common.{◌≡◌, ◌<◌, ◌≤◌, ◌∙◌, ℕ, Bool, true, false, List, [], ◌∷◌, ◌++◌, length, map, cond, Option, Some, None, refl, sym, ap, ap₂, subst, option_map, append_assoc, append-nil, length-append, arith}
use Rattle.std.specs.Prelude.{not, ◌&&◌, ◌||◌, ◌==◌, nat_le, is_some, is_none, unwrap_or, codes}
use Rattle.std.proofs.lemmas.Bool.{or_parts, le-leb, lt-leb, not-false}
use Rattle.std.proofs.lemmas.List.{map-append}
use Rattle.wpds_base.specs.Faults.{first_fault}
use Rattle.wpds_base.specs.Limits.{most_rules, most_pushed, most_copied}
use Rattle.wpds_port.specs.declared.Kind.TheVariants.{Twice, Unknown, WeightText, Return, Count}
use Rattle.wpds_port.specs.declared.Mark.TheVariants.{Colon}
use Rattle.wpds_port.specs.declared.Word.{Word}
use Rattle.wpds_port.specs.declared.Word.TheVariants.{Name, Mark as Sign}
use Rattle.wpds_port.specs.Words.{same_word, before, behind}
use Rattle.document_forms.specs.Words.{is_return, is_colon, name_of, each, guarded, ◌>>=◌}
use Rattle.document_forms.specs.Names.{is_among, has_unknown}
use Rattle.document_forms.specs.Returns.{ReturnForm, PlainReturn, return_of}
use Rattle.document_forms.specs.Forms.{RuleForm, rule_with}
use Rattle.document_forms.specs.declared.weight.WeightsLine.{WeightsLine}
use Rattle.document_forms.specs.declared.weight.WeightsLine.TheVariants.{Reach, Cost, GenKill, Copy, Relation}
use Rattle.document_forms.specs.declared.weight.WeightText.TheVariants.{One}
use Rattle.document_forms.specs.declared.document.RuleLine.{RuleLine}
use Rattle.document_forms.specs.Weights.{WeightForm, OneForm, PairsForm}
use Rattle.document_forms.specs.Above.{Above, item_class, most_names}
use Rattle.document_forms.specs.Kinds.{rule_weight, weight_names, is_unlawful, is_deep, has_unknown_name, has_map_twice, map_names, is_foreign_map, rule_conditions}
use Rattle.document_forms.specs.Documents.{weight_value, rule_value}
use Rattle.document_forms.proofs.CallerLemmas.{IsOwn, weight_own}
use Rattle.rule_reader.specs.WeightReads.{IsRead, IsReadAs, has_places}
use Rattle.rule_reader.specs.RuleReads.{HasFewItems, IsReadRule}
use Rattle.rule_reader.specs.declared.weights.WeightRead.{WeightRead}
use Rattle.rule_reader.specs.declared.rules.RuleParts.{RuleParts}
use Rattle.rule_reader.specs.declared.rules.RuleRead.{RuleRead}
use Rattle.rule_reader.specs.private.Rules.{right_words, weight_words, goes_on_right, HasRight, IsEnd, back_said, AreParts, weight_unknown, weight_amiss, weight_deep, is_unknown, is_misplaced, parts_kind, weight_kept}
use Rattle.rule_reader.specs.declared.rules.RuleEnd.{RuleEnd}
use Rattle.rule_reader.proofs.ReturnLemmas.{before_name, behind_name}

-- ---- a right side

-- no name yet
pub right_none : (ws : List Word) → HasRight ws [] ws
right_none ws = record { right = refl; weight = refl; back = refl }

-- a name more
pub right_more : (ws left rest : List Word) (xs : List (List ℕ)) (x : List ℕ) → left ≡ Name x ∷ rest → is_return (Name x) ≡ false → HasRight ws xs left → HasRight ws (xs ++ x ∷ []) rest
right_more ws left rest xs x e other h =
    let front : before is_return left ≡ Name x ∷ before is_return rest = ap (before is_return) e ∙ ap (λ t. cond t [] (Name x ∷ before is_return rest)) other in
    record {
      right =
          h.right
          ∙ ap (λ vs. map (λ y. Name y) xs ++ before is_colon vs) front
          ∙ sym (append_assoc (map (λ y. Name y) xs) (Name x ∷ []) (right_words rest))
          ∙ ap (λ vs. vs ++ right_words rest) (sym (map-append (λ y. Name y) xs (x ∷ [])));
      weight = h.weight ∙ ap (behind is_colon) front;
      back = h.back ∙ ap (behind is_return) e ∙ ap (λ t. cond t (Some rest) (behind is_return rest)) other;
    }

-- ---- what stands behind it

-- nothing
pub end_none : IsEnd [] (record { weight = None; back = None })
end_none = record { right = refl; weight = refl; back = refl }

-- a weight, and perhaps a return
pub end_weight : (ws : List Word) (e : RuleEnd) (text : List Word) → text ≡ before (same_word (Name (codes "return"))) ws → e.weight ≡ Some text → e.back ≡ behind (same_word (Name (codes "return"))) ws → IsEnd (Sign Colon ∷ ws) e
end_weight ws e text t w b = record {
  right = refl;
  weight = w ∙ ap (λ vs. Some vs) (t ∙ before_name (codes "return") ws);
  back = b ∙ behind_name (codes "return") ws;
}

-- a return
pub end_return : (x : List ℕ) (ws : List Word) (e : RuleEnd) → goes_on_right (Name x ∷ ws) ≡ false → e.weight ≡ None → e.back ≡ Some ws → IsEnd (Name x ∷ ws) e
end_return x ws e h w b =
    let r : is_return (Name x) ≡ true = not-false (is_return (Name x)) h in
    record {
      right = ap (λ t. before is_colon (cond t [] (Name x ∷ before is_return ws))) r;
      weight = w ∙ sym (ap (λ t. behind is_colon (cond t [] (Name x ∷ before is_return ws))) r);
      back = b ∙ sym (ap (λ t. cond t (Some ws) (behind is_return ws)) r);
    }

-- words that begin so are no names
pub no_end : (w : Word) (ws : List Word) → name_of w ≡ None → is_colon w ≡ false → is_return w ≡ false → each name_of (right_words (w ∷ ws)) ≡ None
no_end w ws n c r =
    ap (λ t. each name_of (before is_colon (cond t [] (w ∷ before is_return ws)))) r
    ∙ ap (λ t. each name_of (cond t [] (w ∷ before is_colon (before is_return ws)))) c
    ∙ ap first n
  where
    first : Option (List ℕ) → Option (List (List ℕ))
    first o = elim o [ None ↦ None | Some y ↦ option_map (λ ys. y ∷ ys) (each name_of (before is_colon (before is_return ws))) ]

-- ---- the rule of its parts

-- names in front
each_front : (xs : List (List ℕ)) (ws : List Word) → each name_of (map (λ x. Name x) xs ++ ws) ≡ option_map (λ ys. xs ++ ys) (each name_of ws)
each_front [] ws = go (each name_of ws)
  where
    go : (o : Option (List (List ℕ))) → o ≡ option_map (λ ys. ys) o
    go None = refl
    go (Some ys) = refl
each_front (x ∷ xs) ws = ap (option_map (λ ys. x ∷ ys)) (each_front xs ws) ∙ go (each name_of ws)
  where
    go : (o : Option (List (List ℕ))) → option_map (λ ys. x ∷ ys) (option_map (λ ys. xs ++ ys) o) ≡ option_map (λ ys. x ∷ (xs ++ ys)) o
    go None = refl
    go (Some ys) = refl

-- the rule with these names on its right side, this weight and this return, if they are no more than a rule may leave on top
abbrev rule_of_parts : (p g q : List ℕ) → Option (List (List ℕ)) → Option (List Word) → Option (Option ReturnForm) → Option RuleForm
rule_of_parts p g q right weight back =
    right >>= λ xs. back >>= λ b.
    guarded (nat_le (length xs) most_pushed) (Some (record { control = p; symbol = g; to = q; right = xs; weight = weight; back = b }))

parts_with : (p g q : List ℕ) (ws rest : List Word) (xs : List (List ℕ)) → HasRight ws xs rest
    → rule_with p g q ws ≡ rule_of_parts p g q (option_map (λ ys. xs ++ ys) (each name_of (right_words rest))) (weight_words rest) (back_said (behind is_return rest))
parts_with p g q ws rest xs h =
    ap (rule_of_parts p g q (each name_of (right_words ws)) (weight_words ws)) (behind_is (behind is_return ws))
    ∙ ap₂ (λ vs o. rule_of_parts p g q (each name_of vs) o (back_said (behind is_return ws))) h.right h.weight
    ∙ ap₂ (λ o b. rule_of_parts p g q o (weight_words rest) (back_said b)) (each_front xs (right_words rest)) h.back
  where
    behind_is : (o : Option (List Word)) → elim o as (λ _. Option (Option ReturnForm)) [ None ↦ Some None | Some vs ↦ option_map Some (return_of vs) ] ≡ back_said o
    behind_is None = refl
    behind_is (Some vs) = refl

-- words behind the names that are none
pub no_rule : (p g q : List ℕ) (ws rest : List Word) (xs : List (List ℕ)) → HasRight ws xs rest → each name_of (right_words rest) ≡ None → rule_with p g q ws ≡ None
no_rule p g q ws rest xs h e =
    parts_with p g q ws rest xs h
    ∙ ap (λ o. rule_of_parts p g q (option_map (λ ys. xs ++ ys) o) (weight_words rest) (back_said (behind is_return rest))) e

-- too many names
pub long_rule : (p g q : List ℕ) (ws rest : List Word) (xs : List (List ℕ)) → HasRight ws xs rest → most_pushed < length xs → rule_with p g q ws ≡ None
long_rule p g q ws rest xs h long =
    parts_with p g q ws rest xs h ∙ go (each name_of (right_words rest)) (back_said (behind is_return rest))
  where
    refused : (ys : List (List ℕ)) (r : Option RuleForm) → guarded (nat_le (length (xs ++ ys)) most_pushed) r ≡ None
    refused ys r = ap (λ t. guarded t r) (lt-leb (length (xs ++ ys)) most_pushed (subst (λ n. most_pushed < n) (sym (length-append xs ys)) (omega (arith, long))))

    go : (o : Option (List (List ℕ))) (b : Option (Option ReturnForm)) → rule_of_parts p g q (option_map (λ ys. xs ++ ys) o) (weight_words rest) b ≡ None
    go None b = refl
    go (Some ys) None = refl
    go (Some ys) (Some back) = refused ys (Some (record { control = p; symbol = g; to = q; right = xs ++ ys; weight = weight_words rest; back = back }))

-- an end behind few names
pub parts_end : (p g q : List ℕ) (ws rest : List Word) (xs : List (List ℕ)) (e : RuleEnd) → HasRight ws xs rest → IsEnd rest e → length xs ≤ most_pushed
    → rule_with p g q ws ≡ (back_said e.back >>= λ b. Some (record { control = p; symbol = g; to = q; right = xs; weight = e.weight; back = b }))
parts_end p g q ws rest xs e h m short =
    parts_with p g q ws rest xs h
    ∙ ap (λ vs. rule_of_parts p g q (option_map (λ ys. xs ++ ys) (each name_of vs)) (weight_words rest) (back_said (behind is_return rest))) m.right
    ∙ ap (λ ys. rule_of_parts p g q (Some ys) (weight_words rest) (back_said (behind is_return rest))) (append-nil xs)
    ∙ ap₂ (λ o b. rule_of_parts p g q (Some xs) o (back_said b)) (sym m.weight) (sym m.back)
    ∙ ap (λ t. back_said e.back >>= λ b. guarded t (Some (record { control = p; symbol = g; to = q; right = xs; weight = e.weight; back = b }))) (le-leb (length xs) most_pushed short)

-- an end whose return is none
pub no_return : (p g q : List ℕ) (ws rest : List Word) (xs : List (List ℕ)) (e : RuleEnd) → HasRight ws xs rest → IsEnd rest e → length xs ≤ most_pushed → back_said e.back ≡ None → rule_with p g q ws ≡ None
no_return p g q ws rest xs e h m short b =
    parts_end p g q ws rest xs e h m short
    ∙ ap (λ o. o >>= λ back. Some (record { control = p; symbol = g; to = q; right = xs; weight = e.weight; back = back })) b

-- ---- what is amiss

module _ (a : Above) (f : RuleForm) (p : RuleParts) (is : AreParts a f p) where
  abbrev weight_form : Option WeightForm
  weight_form = rule_weight a.weights f.weight

  abbrev back_form : ReturnForm
  back_form = unwrap_or f.back PlainReturn

  of_weight : {X : Type 0} (g : Option WeightForm → X) (h : Option WeightRead → X)
      → (weight_form ≡ None → h None ≡ g None)
      → ((r : WeightRead) (x : WeightForm) → weight_form ≡ Some x → IsReadAs a.items x r → h (Some r) ≡ g (Some x))
      → h p.weight ≡ g weight_form
  of_weight g h none some = go p.weight is.weight
    where
      go : (o : Option WeightRead) → IsRead a.items weight_form o → h o ≡ g weight_form
      go None e = none e ∙ ap g (sym e)
      go (Some r) (x, e, m) = some r x e m ∙ ap g (sym e)

  same_weight_unknown : weight_unknown p.weight ≡ has_unknown a.items (unwrap_or (option_map weight_names weight_form) [])
  same_weight_unknown = of_weight (λ o. has_unknown a.items (unwrap_or (option_map weight_names o) [])) weight_unknown (λ e. refl) (λ r x e m. m.unknown)

  same_amiss : weight_amiss p.weight ≡ (is_none weight_form || unwrap_or (option_map is_unlawful weight_form) false)
  same_amiss = of_weight (λ o. is_none o || unwrap_or (option_map is_unlawful o) false) weight_amiss (λ e. refl) (λ r x e m. m.unlawful)

  abbrev is_amiss : Bool
  is_amiss = is_none weight_form || unwrap_or (option_map is_unlawful weight_form) false

  -- a weight that is amiss is refused before its depth counts
  same_deep : is_amiss ≡ false → weight_deep p.weight ≡ unwrap_or (option_map is_deep weight_form) false
  same_deep h =
      of_weight (λ o. unwrap_or (option_map is_deep o) false) weight_deep (λ e. refl)
      (λ r x e m. m.deep (sym (ap (λ o. is_none o || unwrap_or (option_map is_unlawful o) false) e) ∙ h))

  before_count : (t u w m c d : Bool) → (w ≡ false → c ≡ d)
      → first_fault ((t, Twice) ∷ (u, Unknown) ∷ (w, WeightText) ∷ (m, Return) ∷ (c, Count) ∷ []) ≡ first_fault ((t, Twice) ∷ (u, Unknown) ∷ (w, WeightText) ∷ (m, Return) ∷ (d, Count) ∷ [])
  before_count true u w m c d h = refl
  before_count false true w m c d h = refl
  before_count false false true m c d h = refl
  before_count false false false m c d h = ap (λ x. first_fault ((m, Return) ∷ (x, Count) ∷ [])) (h refl)

  same_unknown : is_unknown p ≡ has_unknown_name a f weight_form back_form
  same_unknown =
      ap₂ (λ s t. s || t)
      (ap₂ (λ s t. s || t) is.ends.unknown is.right.unknown)
      (ap₂ (λ s t. s || t) same_weight_unknown is.back.unknown)
      ∙ regroup (has_unknown a.controls (f.control ∷ f.to ∷ [])) (not (is_among a.symbols f.symbol)) (has_unknown a.symbols f.right) (has_unknown a.items (unwrap_or (option_map weight_names weight_form) [])) (has_unknown a.items (map_names a.weights back_form))
    where
      regroup : (c s r w b : Bool) → (((c || (s || false)) || r) || (w || b)) ≡ (c || (s || r) || w || b)
      regroup true s r w b = refl
      regroup false true r w b = refl
      regroup false false true w b = refl
      regroup false false false w b = refl

  same_misplaced : is_misplaced p ≡ ((is_some f.back && not (length f.right == 2)) || is_foreign_map a.weights back_form)
  same_misplaced = ap₂ (λ s t. s || t) (ap₂ (λ s t. s && t) is.given (ap (λ n. not (n == 2)) is.right.count)) is.back.foreign

  pub same_kind : parts_kind p ≡ first_fault (rule_conditions a f)
  same_kind =
      ap (λ t. first_fault ((t, Twice) ∷ (is_unknown p, Unknown) ∷ (weight_amiss p.weight, WeightText) ∷ (is_misplaced p, Return) ∷ (weight_deep p.weight || p.full, Count) ∷ [])) is.back.twice
      ∙ ap (λ t. first_fault ((has_map_twice back_form, Twice) ∷ (t, Unknown) ∷ (weight_amiss p.weight, WeightText) ∷ (is_misplaced p, Return) ∷ (weight_deep p.weight || p.full, Count) ∷ [])) same_unknown
      ∙ ap (λ t. first_fault ((has_map_twice back_form, Twice) ∷ (has_unknown_name a f weight_form back_form, Unknown) ∷ (t, WeightText) ∷ (is_misplaced p, Return) ∷ (weight_deep p.weight || p.full, Count) ∷ [])) same_amiss
      ∙ ap (λ t. first_fault ((has_map_twice back_form, Twice) ∷ (has_unknown_name a f weight_form back_form, Unknown) ∷ (is_none weight_form || unwrap_or (option_map is_unlawful weight_form) false, WeightText) ∷ (t, Return) ∷ (weight_deep p.weight || p.full, Count) ∷ [])) same_misplaced
      ∙ before_count (has_map_twice back_form) (has_unknown_name a f weight_form back_form) is_amiss ((is_some f.back && not (length f.right == 2)) || is_foreign_map a.weights back_form)
      (weight_deep p.weight || p.full) (unwrap_or (option_map is_deep weight_form) false || nat_le most_rules a.rules)
      (λ h. ap₂ (λ s t. s || t) (same_deep h) is.full)

  -- ---- nothing is amiss

  record AreSound : Type 0 where
    unknown : is_unknown p ≡ false
    amiss : weight_amiss p.weight ≡ false
    misplaced : is_misplaced p ≡ false
    deep : weight_deep p.weight ≡ false

  sound : parts_kind p ≡ None → AreSound
  sound e = go p.back.twice (is_unknown p) (weight_amiss p.weight) (is_misplaced p) (weight_deep p.weight || p.full) refl refl refl refl e
    where
      go : (t u w m c : Bool) → is_unknown p ≡ u → weight_amiss p.weight ≡ w → is_misplaced p ≡ m → (weight_deep p.weight || p.full) ≡ c
          → first_fault ((t, Twice) ∷ (u, Unknown) ∷ (w, WeightText) ∷ (m, Return) ∷ (c, Count) ∷ []) ≡ None → AreSound
      go true u w m c eu ew em ec e = cc
      go false true w m c eu ew em ec e = cc
      go false false true m c eu ew em ec e = cc
      go false false false true c eu ew em ec e = cc
      go false false false false true eu ew em ec e = cc
      go false false false false false eu ew em ec e = record { unknown = eu; amiss = ew; misplaced = em; deep = (or_parts (weight_deep p.weight) p.full ec).0 }

  few_places : HasFewItems a → (x : WeightForm) → IsOwn a.weights x → has_places a.items x ≡ true
  few_places few (PairsForm ps) own = go a.weights refl own few
    where
      go : (u : WeightsLine) → a.weights ≡ u → IsOwn u (PairsForm ps) → length a.items ≤ most_names a.weights (item_class a.weights) → has_places a.items (PairsForm ps) ≡ true
      go Copy e own few = le-leb (length a.items) most_copied (subst (λ u. length a.items ≤ most_names u (item_class u)) e few)
      go Reach e own few = absurd own
      go (Cost cap) e own few = absurd own
      go GenKill e own few = absurd own
      go Relation e own few = absurd own
  few_places few x own = refl

  kept : HasFewItems a → AreSound → weight_kept p.weight ≡ unwrap_or (option_map (weight_value a.items) weight_form) One
  kept few s = go p.weight is.weight s.amiss s.deep (or_parts (weight_unknown p.weight) p.back.unknown (or_parts (p.ends.unknown || p.right.unknown) (weight_unknown p.weight || p.back.unknown) s.unknown).1).0
    where
      go : (o : Option WeightRead) → IsRead a.items weight_form o → weight_amiss o ≡ false → weight_deep o ≡ false → weight_unknown o ≡ false → weight_kept o ≡ unwrap_or (option_map (weight_value a.items) weight_form) One
      go None e amiss deep unknown = cc
      go (Some r) (x, e, m) amiss deep unknown =
          m.value (few_places few x (rule_own f.weight x e)) (rw (unknown, amiss, deep) refl)
          ∙ ap (λ o. unwrap_or (option_map (weight_value a.items) o) One) (sym e)
        where
          rule_own : (ws : Option (List Word)) (x : WeightForm) → rule_weight a.weights ws ≡ Some x → IsOwn a.weights x
          rule_own None x e = let same : OneForm ≡ x = cc in subst (IsOwn a.weights) same tt
          rule_own (Some ws) x e = weight_own a.weights ws x e

  pub rule_read : (r : RuleRead) → r.kind ≡ parts_kind p → r.rule.control ≡ p.ends.control → r.rule.symbol ≡ p.ends.symbol → r.rule.to ≡ p.ends.to
      → r.rule.right ≡ p.right.numbers.items → r.rule.weight ≡ weight_kept p.weight → r.rule.map ≡ p.back.map → IsReadRule a f r
  rule_read r k c g t x w m =
      record {
        kind = k ∙ same_kind;
        value = λ few none.
            let s = sound (sym k ∙ none) in
            let u = or_parts (p.ends.unknown || p.right.unknown) (weight_unknown p.weight || p.back.unknown) s.unknown in
            let ends = or_parts p.ends.unknown p.right.unknown u.0 in
            let others = or_parts (weight_unknown p.weight) p.back.unknown u.1 in
            let away = or_parts (p.given && not (length p.right.numbers.items == 2)) p.back.foreign s.misplaced in
            same_rule r.rule (rule_value a f)
            (c ∙ is.ends.control ends.0) (g ∙ is.ends.symbol ends.0) (t ∙ is.ends.to ends.0)
            (x ∙ is.right.numbers ends.1) (w ∙ kept few s) (m ∙ is.back.map others.1 away.1);
      }
    where
      same_rule : (r q : RuleLine) → r.control ≡ q.control → r.symbol ≡ q.symbol → r.to ≡ q.to → r.right ≡ q.right → r.weight ≡ q.weight → r.map ≡ q.map → r ≡ q
      same_rule r q a b c d e f = λ i. record { control = a i; symbol = b i; to = c i; right = d i; weight = e i; map = f i }

-- ---- all of it

abbrev pub rule_form : (p g q : List ℕ) → RuleEnd → List (List ℕ) → Option ReturnForm → RuleForm
rule_form p g q e right back = record { control = p; symbol = g; to = q; right = right; weight = e.weight; back = back }

pub back_there : (o : Option (List Word)) (b : Option ReturnForm) → back_said o ≡ Some b → is_some o ≡ is_some b
back_there None b e = let same : None ≡ b = cc in ap is_some same
back_there (Some ws) b e = go (return_of ws) e
  where
    go : (o : Option ReturnForm) → option_map Some o ≡ Some b → true ≡ is_some b
    go None k = cc
    go (Some r) k = let same : Some r ≡ b = cc in ap is_some same
