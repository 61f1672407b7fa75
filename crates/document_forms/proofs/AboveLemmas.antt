-- What the lines above say, with an accepted line more.
use Rattle.std.proofs.Common.{◌≡◌, ℕ, ◌+◌, Bool, true, false, not, cond, ◌||◌, List, [], ◌∷◌, ◌++◌, Some, None, refl, sym, ap, ◌∙◌, append-nil, add-zero, length}
use Rattle.std.specs.Prelude.{count_by, flat_map, nat_lt}
use Rattle.std.specs.List.{list_any}
use Rattle.std.proofs.lemmas.Bool.{or_parts}
use Rattle.std.proofs.lemmas.List.Sums.{sum_by-append}
use Rattle.wpds_base.specs.Faults.{first_fault}
use Rattle.document_forms.specs.declared.weight.WeightsLine.{WeightsLine}
use Rattle.document_forms.specs.declared.weight.WeightsLine.TheVariants.{Reach, Cost, GenKill, Copy, Relation}
use Rattle.document_forms.specs.Names.{is_among, has_twice, once}
use Rattle.document_forms.specs.Patterns.{PatternForm}
use Rattle.document_forms.specs.Forms.{WeightsForm, ReachWeights, CostWeights, GenKillWeights, CopyWeights, RelationWeights, Class, Controls, Symbols, Facts, Variables, RuleForm, LineForm, OfWeights, OfNames, OfRule, OfQuery}
use Rattle.wpds_port.specs.declared.Kind.{Kind}
use Rattle.wpds_port.specs.declared.Kind.TheVariants.{Form, Twice, Count}
use Rattle.document_forms.specs.Above.{weights_line, item_class, has_class, most_names, names_on, declared, is_rule, is_query, Above, above_of, class_names, with_line}
use Rattle.document_forms.specs.Kinds.{Conditions, names_conditions, conditions}
use Rattle.document_forms.proofs.NameLemmas.{flat_map_append, declared_more}

-- ---- conditions that don't hold

first_false : (c : Bool × Kind) (cs : Conditions) → first_fault (c ∷ cs) ≡ None → (c.0 ≡ false) × (first_fault cs ≡ None)
first_false c cs h = go c.0 refl h
  where
    go : (t : Bool) → c.0 ≡ t → cond t (Some c.1) (first_fault cs) ≡ None → (c.0 ≡ false) × (first_fault cs ≡ None)
    go true e s = cc
    go false e s = (e, s)

-- ---- one line more

counted_more : (test : LineForm → Bool) (ls : List LineForm) (f : LineForm) → count_by test (ls ++ f ∷ []) ≡ count_by test ls + count_by test (f ∷ [])
counted_more test ls f = sum_by-append (λ x. cond (test x) 1 0) ls (f ∷ [])

declared_same : (c : Class) (ls : List LineForm) (f : LineForm) → names_on c f ≡ [] → declared c (ls ++ f ∷ []) ≡ declared c ls
declared_same c ls f e = ap once (flat_map_append c ls f ∙ ap (λ xs. flat_map (names_on c) ls ++ xs) e ∙ append-nil (flat_map (names_on c) ls))

-- ---- what each class has

two_false : (b c : Bool) (j k : Kind) (cs : Conditions) → first_fault ((b, j) ∷ (c, k) ∷ cs) ≡ None → (b ≡ false) × (c ≡ false)
two_false b c j k cs h =
    let m = first_false (b, j) ((c, k) ∷ cs) h in
    (m.0, (first_false (c, k) cs m.1).0)

-- the names of a line are new to its class, which the weights have
names_new : (a : Above) (c : Class) (xs : List (List ℕ)) → first_fault (names_conditions a c xs) ≡ None → (has_class a.weights c ≡ true) × (has_twice xs ≡ false) × (list_any (is_among (class_names a c)) xs ≡ false)
names_new a c xs h =
    let known = class_names a c in
    let m = two_false (not (has_class a.weights c)) (has_twice xs || list_any (is_among known) xs) Form Twice ((nat_lt (most_names a.weights c) (length (once (known ++ xs))), Count) ∷ []) h in
    let t = or_parts (has_twice xs) (list_any (is_among known) xs) m.1 in
    (is_true (has_class a.weights c) m.0, t.0, t.1)
  where
    is_true : (b : Bool) → not b ≡ false → b ≡ true
    is_true true e = refl
    is_true false e = cc

count_same : (test : LineForm → Bool) (ls : List LineForm) (f : LineForm) → count_by test (f ∷ []) ≡ 0 → count_by test (ls ++ f ∷ []) ≡ count_by test ls
count_same test ls f e = counted_more test ls f ∙ ap (λ n. count_by test ls + n) e ∙ add-zero (count_by test ls)

no_items : (u : WeightsLine) (f : LineForm) → names_on Facts f ≡ [] → names_on Variables f ≡ [] → names_on (item_class u) f ≡ []
no_items Reach f h k = k
no_items (Cost cap) f h k = k
no_items GenKill f h k = h
no_items Copy f h k = k
no_items Relation f h k = k

abbrev above_with : WeightsLine → (c s i : List (List ℕ)) (r q : ℕ) → Above
above_with u c s i r q = record { weights = u; controls = c; symbols = s; items = i; rules = r; queries = q }

same_above : (u : WeightsLine) (c d s t i j : List (List ℕ)) (r m q n : ℕ) → c ≡ d → s ≡ t → i ≡ j → r ≡ m → q ≡ n → above_with u c s i r q ≡ above_with u d t j m n
same_above u c d s t i j r m q n e f g h k =
    ap (λ x. above_with u x s i r q) e
    ∙ ap (λ x. above_with u d x i r q) f
    ∙ ap (λ x. above_with u d t x r q) g
    ∙ ap (λ x. above_with u d t j x q) h
    ∙ ap (λ x. above_with u d t j m x) k

module _ (w : WeightsForm) (ls : List LineForm) where
  abbrev lines : List LineForm
  lines = OfWeights w ∷ ls

  abbrev now : Above
  now = above_of lines

  -- the fields with a line more are these
  fields : (f : LineForm) (c s i : List (List ℕ)) (r q : ℕ) → declared Controls (lines ++ f ∷ []) ≡ c → declared Symbols (lines ++ f ∷ []) ≡ s → declared (item_class (weights_line w)) (lines ++ f ∷ []) ≡ i → count_by is_rule (lines ++ f ∷ []) ≡ r → count_by is_query (lines ++ f ∷ []) ≡ q → above_of (lines ++ f ∷ []) ≡ above_with (weights_line w) c s i r q
  fields f c s i r q e g h k m = same_above (weights_line w) (declared Controls (lines ++ f ∷ [])) c (declared Symbols (lines ++ f ∷ [])) s (declared (item_class (weights_line w)) (lines ++ f ∷ [])) i (count_by is_rule (lines ++ f ∷ [])) r (count_by is_query (lines ++ f ∷ [])) q e g h k m

  item_names : (f : LineForm) → names_on Facts f ≡ [] → names_on Variables f ≡ [] → declared (item_class (weights_line w)) (lines ++ f ∷ []) ≡ now.items
  item_names f h k = declared_same (item_class (weights_line w)) lines f (no_items (weights_line w) f h k)

  rule_more : (r : RuleForm) → above_of (lines ++ OfRule r ∷ []) ≡ with_line now (OfRule r)
  rule_more r =
      let f = OfRule r in
      fields f now.controls now.symbols now.items (now.rules + 1) now.queries (declared_same Controls lines f refl) (declared_same Symbols lines f refl) (item_names f refl refl) (counted_more is_rule lines f) (count_same is_query lines f refl)

  query_more : (p q : PatternForm) → above_of (lines ++ OfQuery p q ∷ []) ≡ with_line now (OfQuery p q)
  query_more p q =
      let f = OfQuery p q in
      fields f now.controls now.symbols now.items now.rules (now.queries + 1) (declared_same Controls lines f refl) (declared_same Symbols lines f refl) (item_names f refl refl) (count_same is_rule lines f refl) (counted_more is_query lines f)

  controls_more : (xs : List (List ℕ)) → first_fault (names_conditions now Controls xs) ≡ None → above_of (lines ++ OfNames Controls xs ∷ []) ≡ with_line now (OfNames Controls xs)
  controls_more xs h =
      let f = OfNames Controls xs in
      let n = names_new now Controls xs h in
      fields f (now.controls ++ xs) now.symbols now.items now.rules now.queries (declared_more Controls lines f n.2 n.1) (declared_same Symbols lines f refl) (item_names f refl refl) (count_same is_rule lines f refl) (count_same is_query lines f refl)

  symbols_more : (xs : List (List ℕ)) → first_fault (names_conditions now Symbols xs) ≡ None → above_of (lines ++ OfNames Symbols xs ∷ []) ≡ with_line now (OfNames Symbols xs)
  symbols_more xs h =
      let f = OfNames Symbols xs in
      let n = names_new now Symbols xs h in
      fields f now.controls (now.symbols ++ xs) now.items now.rules now.queries (declared_same Controls lines f refl) (declared_more Symbols lines f n.2 n.1) (item_names f refl refl) (count_same is_rule lines f refl) (count_same is_query lines f refl)

-- facts, and variables
facts_more : (w : WeightsForm) (ls : List LineForm) (xs : List (List ℕ)) → first_fault (names_conditions (now w ls) Facts xs) ≡ None → above_of (lines w ls ++ OfNames Facts xs ∷ []) ≡ with_line (now w ls) (OfNames Facts xs)
facts_more w ls xs h = go w (names_new (now w ls) Facts xs h)
  where
    go : (v : WeightsForm) → (has_class (weights_line v) Facts ≡ true) × (has_twice xs ≡ false) × (list_any (is_among (now v ls).items) xs ≡ false) → above_of (lines v ls ++ OfNames Facts xs ∷ []) ≡ with_line (now v ls) (OfNames Facts xs)
    go ReachWeights n = let e : false ≡ true = n.0 in cc
    go (CostWeights c) n = let e : false ≡ true = n.0 in cc
    go GenKillWeights n =
        let f = OfNames Facts xs in
        let a = now GenKillWeights ls in
        let l = lines GenKillWeights ls in
        fields GenKillWeights ls f a.controls a.symbols (a.items ++ xs) a.rules a.queries (declared_same Controls l f refl) (declared_same Symbols l f refl) (declared_more Facts l f n.2 n.1) (count_same is_rule l f refl) (count_same is_query l f refl)
    go CopyWeights n = let e : false ≡ true = n.0 in cc
    go RelationWeights n = let e : false ≡ true = n.0 in cc

variables_more : (w : WeightsForm) (ls : List LineForm) (xs : List (List ℕ)) → first_fault (names_conditions (now w ls) Variables xs) ≡ None → above_of (lines w ls ++ OfNames Variables xs ∷ []) ≡ with_line (now w ls) (OfNames Variables xs)
variables_more w ls xs h = go w (names_new (now w ls) Variables xs h)
  where
    more : (v : WeightsForm) → item_class (weights_line v) ≡ Variables → list_any (is_among (declared Variables (lines v ls))) xs ≡ false → has_twice xs ≡ false → above_of (lines v ls ++ OfNames Variables xs ∷ []) ≡ with_line (now v ls) (OfNames Variables xs)
    more v e n t =
        let f = OfNames Variables xs in
        let a = now v ls in
        let l = lines v ls in
        fields v ls f a.controls a.symbols (a.items ++ xs) a.rules a.queries (declared_same Controls l f refl) (declared_same Symbols l f refl)
        (ap (λ c. declared c (l ++ f ∷ [])) e ∙ declared_more Variables l f n t ∙ ap (λ c. declared c l ++ xs) (sym e))
        (count_same is_rule l f refl) (count_same is_query l f refl)

    go : (v : WeightsForm) → (has_class (weights_line v) Variables ≡ true) × (has_twice xs ≡ false) × (list_any (is_among (now v ls).items) xs ≡ false) → above_of (lines v ls ++ OfNames Variables xs ∷ []) ≡ with_line (now v ls) (OfNames Variables xs)
    go ReachWeights n = let e : false ≡ true = n.0 in cc
    go (CostWeights c) n = let e : false ≡ true = n.0 in cc
    go GenKillWeights n = let e : false ≡ true = n.0 in cc
    go CopyWeights n = more CopyWeights refl n.2 n.1
    go RelationWeights n = more RelationWeights refl n.2 n.1

pub line_more : (all : ℕ) (w : WeightsForm) (ls : List LineForm) (f : LineForm) → first_fault (conditions all (above_of (OfWeights w ∷ ls)) f) ≡ None → above_of ((OfWeights w ∷ ls) ++ f ∷ []) ≡ with_line (above_of (OfWeights w ∷ ls)) f
line_more all w ls (OfWeights v) h = cc
line_more all w ls (OfNames Controls xs) h = controls_more w ls xs h
line_more all w ls (OfNames Symbols xs) h = symbols_more w ls xs h
line_more all w ls (OfNames Facts xs) h = facts_more w ls xs h
line_more all w ls (OfNames Variables xs) h = variables_more w ls xs h
line_more all w ls (OfRule r) h = rule_more w ls r
line_more all w ls (OfQuery p q) h = query_more w ls p q
