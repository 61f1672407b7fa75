-- A document is read as it is written, where its weights are.
use Rattle.std.proofs.Common.{◌≡◌, ◌≢◌, ◌⊎◌, inl, inr, ℕ, ◌+◌, ◌^◌, ◌<◌, ◌≤◌, Bool, true, false, not, ◌&&◌, ◌||◌, List, [], ◌∷◌, ◌++◌, map, length, Some, None, refl, sym, ap, ap₂, ◌∙◌, subst, append_assoc, append-nil, arith, decimal}
use Rattle.std.specs.Prelude.{All, codes, nat_le, nat_lt, if◌then◌else◌}
use Rattle.std.specs.List.{list_any}
use Rattle.std.proofs.lemmas.Bool.{and_from, or_from, or_right, le-leb, ltb-true, false_from_ne_true}
use Rattle.std.proofs.lemmas.List.Elements.{All-head, All-tail}
use Rattle.wpds_base.specs.Faults.{first_fault}
use Rattle.wpds_base.specs.Limits.{most_bytes, most_cost, most_rules, most_queries}
use Rattle.wpds_base.specs.Lists.{IsOnce}
use Rattle.wpds_port.specs.declared.Kind.TheVariants.{Form, Twice, Count, NothingAsked}
use Rattle.wpds_port.specs.declared.Word.{Word}
use Rattle.wpds_port.specs.declared.Word.TheVariants.{Name, Number}
use Rattle.wpds_port.specs.Tokens.{is_word, is_lawful_word}
use Rattle.document_forms.specs.declared.weight.WeightsLine.{WeightsLine}
use Rattle.document_forms.specs.declared.weight.WeightsLine.TheVariants.{Reach, Cost, GenKill, Copy, Relation}
use Rattle.document_forms.specs.declared.weight.WeightText.{WeightText}
use Rattle.document_forms.specs.declared.document.RuleLine.{RuleLine}
use Rattle.document_forms.specs.declared.document.QueryLine.{QueryLine}
use Rattle.document_forms.specs.Names.{is_reserved, is_among, has_twice, once}
use Rattle.document_forms.specs.Forms.{WeightsForm, ReachWeights, CostWeights, GenKillWeights, CopyWeights, RelationWeights, Class, Controls, Symbols, Facts, Variables, LineForm, OfWeights, OfNames, OfRule, OfQuery, form_of}
use Rattle.document_forms.specs.FormWords.{class_word, form_words, is_some_list, is_form}
use Rattle.document_forms.specs.Above.{weights_line, item_class, has_class, most_names, is_query, Above, above_of, class_names, with_line, declared}
use Rattle.document_forms.specs.Kinds.{weights_conditions, names_conditions, conditions}
use Rattle.document_forms.specs.FirstRefusal.{Counted, counted_lines, forms, all_symbols, by_form, document_format, missing, AreAccepted}
use Rattle.document_forms.specs.Documents.{Document, rules_on, queries_on, gathered, body, document_of, reads_as}
use Rattle.document_forms.specs.Writing.{spaced, weights_text, names_lines, item_word, rule_text, query_text, written}
use Rattle.document_forms.specs.Lawful.{IsName, IsWeightText, IsWeightsLine, HasSets, HasMap, AreNames, IsRuleOf, IsQueryOf, IsDocument}
use Rattle.document_forms.proofs.NameLemmas.{twice_is_once, once_joined}
use Rattle.document_forms.proofs.FormLemmas.{one_form}
use Rattle.document_forms.proofs.AboveLemmas.{line_more}
use Rattle.document_forms.proofs.RefusedLemmas.{AcceptedFrom, none_split, accepted_more}
use Rattle.document_forms.proofs.DocumentLemmas.{forms_first, forms_more}
use Rattle.document_forms.proofs.WrittenWordLemmas.{OneCutting, Says, says_words, says_word, says_apart, says_spaced, say_more}
use Rattle.document_forms.proofs.WrittenLineLemmas.{LinesSay, said_lines, lines_said}
use Rattle.document_forms.proofs.WrittenNameLemmas.{number_written, says_number, say_names}
use Rattle.document_forms.proofs.WrittenQueryLemmas.{query_form, says_query, form_query, query_accepted, value_query}
use Rattle.document_forms.proofs.WrittenRuleLemmas.{WeightIs, above_at, rule_form, says_rule, form_rule, rule_accepted, value_rule}

-- ---- lines that are forms, and are accepted

-- The texts are the forms, each accepted below those above it; what is said above them, and with
-- them.
abbrev AreWritten : ℕ → Above → List (List ℕ) → List LineForm → Above → Type 0
AreWritten all a [] [] b = a ≡ b
AreWritten all a (t ∷ ts) (f ∷ fs) b =
    Says t (form_words f) × (is_form f ≡ true) × (first_fault (conditions all a f) ≡ None)
    × AreWritten all (with_line a f) ts fs b
AreWritten _ _ _ _ _ = ⊥

-- what each line gives
abbrev collected : {A : Type 0} → (Above → LineForm → List A) → Above → List LineForm → List A
collected g a [] = []
collected g a (f ∷ fs) = g a f ++ collected g (with_line a f) fs

written_both : (all : ℕ) (a b c : Above) (ts us : List (List ℕ)) (fs gs : List LineForm) → AreWritten all a ts fs b → AreWritten all b us gs c → AreWritten all a (ts ++ us) (fs ++ gs) c
written_both all a b c [] us [] gs h k = subst (λ x. AreWritten all x us gs c) (sym h) k
written_both all a b c [] us (f ∷ fs) gs h k = absurd h
written_both all a b c (t ∷ ts) us [] gs h k = absurd h
written_both all a b c (t ∷ ts) us (f ∷ fs) gs h k = (h.0, h.1, h.2, written_both all (with_line a f) b c ts us fs gs h.3 k)

collected_both : {A : Type 0} (g : Above → LineForm → List A) (all : ℕ) (a b : Above) (ts : List (List ℕ)) (fs gs : List LineForm) → AreWritten all a ts fs b → collected g a (fs ++ gs) ≡ collected g a fs ++ collected g b gs
collected_both g all a b [] [] gs h = ap (λ x. collected g x gs) h
collected_both g all a b [] (f ∷ fs) gs h = absurd h
collected_both g all a b (t ∷ ts) [] gs h = absurd h
collected_both g all a b (t ∷ ts) (f ∷ fs) gs h =
    ap (λ xs. g a f ++ xs) (collected_both g all (with_line a f) b ts fs gs h.3)
    ∙ sym (append_assoc (g a f) (collected g (with_line a f) fs) (collected g b gs))

form_again : (t : List ℕ) (f : LineForm) → Says t (form_words f) → is_form f ≡ true → form_of (form_words f) ≡ Some f
form_again t f s h = (one_form (form_words f) f).1 (s.lawful, h, refl)

some_words : (f : LineForm) → is_some_list (form_words f) ≡ true
some_words (OfWeights w) = refl
some_words (OfNames c xs) = refl
some_words (OfRule r) = refl
some_words (OfQuery p q) = refl

lines_say : (all : ℕ) (a b : Above) (ts : List (List ℕ)) (fs : List LineForm) → AreWritten all a ts fs b → LinesSay ts (map form_words fs)
lines_say all a b [] [] h = tt
lines_say all a b [] (f ∷ fs) h = absurd h
lines_say all a b (t ∷ ts) [] h = absurd h
lines_say all a b (t ∷ ts) (f ∷ fs) h = (says_words t (form_words f) h.0, some_words f, lines_say all (with_line a f) b ts fs h.3)

abbrev line_at : ℕ → LineForm → Counted
line_at n f = record { number = n; text = true; words = Some (form_words f); form = form_of (form_words f) }

forms_said : (all n : ℕ) (a b : Above) (ts : List (List ℕ)) (fs : List LineForm) → AreWritten all a ts fs b → forms (said_lines n (map form_words fs)) ≡ fs
forms_said all n a b [] [] h = refl
forms_said all n a b [] (f ∷ fs) h = absurd h
forms_said all n a b (t ∷ ts) [] h = absurd h
forms_said all n a b (t ∷ ts) (f ∷ fs) h =
    forms_first (line_at n f) f (said_lines (n + 1) (map form_words fs)) (form_again t f h.0 h.1)
    ∙ ap (λ gs. f ∷ gs) (forms_said all (n + 1) (with_line a f) b ts fs h.3)

module _ (all : ℕ) (w : WeightsForm) where
  abbrev now : List LineForm → Above
  now ls = above_of (OfWeights w ∷ ls)

  next : (ls : List LineForm) (b : Above) (t : List ℕ) (ts : List (List ℕ)) (f : LineForm) (fs : List LineForm) → AreWritten all (now ls) (t ∷ ts) (f ∷ fs) b → AreWritten all (now (ls ++ f ∷ [])) ts fs b
  next ls b t ts f fs h = subst (λ x. AreWritten all x ts fs b) (sym (line_more all w ls f h.2)) h.3

  reached : (ls : List LineForm) (b : Above) (ts : List (List ℕ)) (fs : List LineForm) → AreWritten all (now ls) ts fs b → now (ls ++ fs) ≡ b
  reached ls b [] [] h = ap now (append-nil ls) ∙ h
  reached ls b [] (f ∷ fs) h = absurd h
  reached ls b (t ∷ ts) [] h = absurd h
  reached ls b (t ∷ ts) (f ∷ fs) h =
      ap now (sym (append_assoc ls (f ∷ []) fs)) ∙ reached (ls ++ f ∷ []) b ts fs (next ls b t ts f fs h)

  gathered_is : {A : Type 0} (g : Above → LineForm → List A) (ls : List LineForm) (b : Above) (ts : List (List ℕ)) (fs : List LineForm) → AreWritten all (now ls) ts fs b → gathered g (OfWeights w ∷ ls) fs ≡ collected g (now ls) fs
  gathered_is g ls b [] [] h = refl
  gathered_is g ls b [] (f ∷ fs) h = absurd h
  gathered_is g ls b (t ∷ ts) [] h = absurd h
  gathered_is g ls b (t ∷ ts) (f ∷ fs) h =
      ap (λ xs. g (now ls) f ++ xs)
      (gathered_is g (ls ++ f ∷ []) b ts fs (next ls b t ts f fs h) ∙ ap (λ x. collected g x fs) (line_more all w ls f h.2))

  accepted_rest : (x y : Counted) (us : List Counted) (ls : List LineForm) → forms (y ∷ us) ≡ OfWeights w ∷ ls → (n : ℕ) (b : Above) (ts : List (List ℕ)) (fs : List LineForm) → AreWritten all (now ls) ts fs b → AcceptedFrom (document_format all) (x ∷ y ∷ us) (said_lines n (map form_words fs))
  accepted_rest x y us ls e n b [] [] h = λ above l below s k has. none_split above l below s
  accepted_rest x y us ls e n b [] (f ∷ fs) h = absurd h
  accepted_rest x y us ls e n b (t ∷ ts) [] h = absurd h
  accepted_rest x y us ls e n b (t ∷ ts) (f ∷ fs) h =
      let form = form_again t f h.0 h.1 in
      let l = line_at n f in
      accepted_more (document_format all) (x ∷ y ∷ us) (said_lines (n + 1) (map form_words fs)) l
      (ap₂ (λ o gs. first_fault (by_form (conditions all (above_of gs)) o)) form e ∙ h.2)
      (accepted_rest x y (us ++ l ∷ []) (ls ++ f ∷ []) (forms_more (y ∷ us) l f form ∙ ap (λ gs. gs ++ f ∷ []) e) (n + 1) b ts fs (next ls b t ts f fs h))

-- ---- the header and the weights line

abbrev header_words : List Word
header_words = Name (codes "wpds") ∷ Number (codes "1") ∷ []

says_header : Says (codes "wpds 1") header_words
says_header =
    says_apart (codes "wpds") (codes "1") (Name (codes "wpds") ∷ []) (Number (codes "1") ∷ [])
    (says_word (Name (codes "wpds")) refl refl) (says_word (Number (codes "1")) refl refl)

abbrev weights_form : WeightsLine → WeightsForm
weights_form Reach = ReachWeights
weights_form (Cost cap) = CostWeights (decimal cap)
weights_form GenKill = GenKillWeights
weights_form Copy = CopyWeights
weights_form Relation = RelationWeights

says_weights_word : (x : List ℕ) → is_word (Name x) ≡ true → is_lawful_word (Name x) ≡ true → Says (codes "weights" ++ 32 ∷ x) (Name (codes "weights") ∷ Name x ∷ [])
says_weights_word x h l = says_apart (codes "weights") x (Name (codes "weights") ∷ []) (Name x ∷ []) (says_word (Name (codes "weights")) refl refl) (says_word (Name x) h l)

cap_small : (cap : ℕ) → cap ≤ most_cost → cap < 2 ^ 64
cap_small cap l = omega arith

says_weights : (u : WeightsLine) → IsWeightsLine u → Says (weights_text u) (form_words (OfWeights (weights_form u)))
says_weights Reach h = says_weights_word (codes "reach") refl refl
says_weights (Cost cap) h =
    says_apart (codes "weights") (codes "cost " ++ decimal cap) (Name (codes "weights") ∷ []) (Name (codes "cost") ∷ Number (decimal cap) ∷ []) (says_word (Name (codes "weights")) refl refl)
    (says_apart (codes "cost") (decimal cap) (Name (codes "cost") ∷ []) (Number (decimal cap) ∷ []) (says_word (Name (codes "cost")) refl refl) (says_number cap (cap_small cap h.1)))
says_weights GenKill h = says_weights_word (codes "genkill") refl refl
says_weights Copy h = says_weights_word (codes "copy") refl refl
says_weights Relation h = says_weights_word (codes "relation") refl refl

weights_again : (u : WeightsLine) → IsWeightsLine u → weights_line (weights_form u) ≡ u
weights_again Reach h = refl
weights_again (Cost cap) h = ap Cost (number_written cap (cap_small cap h.1))
weights_again GenKill h = refl
weights_again Copy h = refl
weights_again Relation h = refl

weights_accepted : (u : WeightsLine) → IsWeightsLine u → first_fault (weights_conditions (OfWeights (weights_form u))) ≡ None
weights_accepted Reach h = refl
weights_accepted (Cost cap) h =
    ap (λ n. first_fault ((not (nat_le 1 n && nat_le n most_cost), Count) ∷ [])) (number_written cap (cap_small cap h.1))
    ∙ ap (λ t. first_fault ((not t, Count) ∷ [])) (and_from (nat_le 1 cap) (nat_le cap most_cost) (le-leb 1 cap h.0) (le-leb cap most_cost h.1))
weights_accepted GenKill h = refl
weights_accepted Copy h = refl
weights_accepted Relation h = refl

-- ---- lines of names

abbrev names_forms : Class → List (List ℕ) → List LineForm
names_forms c [] = []
names_forms c (x ∷ xs) = OfNames c (x ∷ xs) ∷ []

none_known : (xs : List (List ℕ)) → list_any (is_among []) xs ≡ false
none_known [] = refl
none_known (x ∷ xs) = none_known xs

names_accepted : (a : Above) (c : Class) (xs : List (List ℕ)) → has_class a.weights c ≡ true → class_names a c ≡ [] → IsOnce xs → length xs ≤ most_names a.weights c → first_fault (names_conditions a c xs) ≡ None
names_accepted a c xs h e o l =
    let twice : has_twice xs ≡ false = (twice_is_once xs).1 o in
    let alone : once xs ≡ xs = once_joined [] xs tt (none_known xs) twice in
    ap (λ known. first_fault ((not (has_class a.weights c), Form) ∷ (has_twice xs || list_any (is_among known) xs, Twice) ∷ (nat_lt (most_names a.weights c) (length (once (known ++ xs))), Count) ∷ [])) e
    ∙ none (not (has_class a.weights c)) (has_twice xs || list_any (is_among []) xs) (nat_lt (most_names a.weights c) (length (once xs)))
    (ap not h) (or_from (has_twice xs) (list_any (is_among []) xs) twice (none_known xs))
    (false_from_ne_true (nat_lt (most_names a.weights c) (length (once xs))) (λ f. absurd (omega (arith, ltb-true (most_names a.weights c) (length (once xs)) f, ap length alone))))
  where
    none : (x y z : Bool) → x ≡ false → y ≡ false → z ≡ false → first_fault ((x, Form) ∷ (y, Twice) ∷ (z, Count) ∷ []) ≡ None
    none x y z p q r = rw (p, q, r) refl

none_reserved : (xs : List (List ℕ)) → All IsName xs → list_any is_reserved xs ≡ false
none_reserved [] h = refl
none_reserved (x ∷ xs) h = or_from (is_reserved x) (list_any is_reserved xs) (All-head IsName x xs h).free (none_reserved xs (All-tail IsName x xs h))

lawful_class : (c : Class) → Says (class_word c) (Name (class_word c) ∷ [])
lawful_class Controls = says_word (Name (codes "controls")) refl refl
lawful_class Symbols = says_word (Name (codes "symbols")) refl refl
lawful_class Facts = says_word (Name (codes "facts")) refl refl
lawful_class Variables = says_word (Name (codes "variables")) refl refl

says_names : (c : Class) (xs : List (List ℕ)) → All IsName xs → Says (spaced (class_word c ∷ xs)) (form_words (OfNames c xs))
says_names c xs h = says_spaced (class_word c ∷ xs) (form_words (OfNames c xs)) (say_more (class_word c) xs (Name (class_word c) ∷ []) (map Name xs) (lawful_class c) (say_names xs h))

names_written : (all : ℕ) (a b : Above) (c : Class) (xs : List (List ℕ)) → (has_class a.weights c ≡ true) ⊎ (xs ≡ []) → class_names a c ≡ [] → AreNames (most_names a.weights c) xs → (with_line a (OfNames c xs) ≡ b) → (xs ≡ [] → a ≡ b) → AreWritten all a (names_lines (class_word c) xs) (names_forms c xs) b
names_written all a b c [] h e n s t = t refl
names_written all a b c (x ∷ xs) (inr h) e n s t = cc
names_written all a b c (x ∷ xs) (inl h) e n s t = (
  says_names c (x ∷ xs) n.lawful,
  ap not (none_reserved (x ∷ xs) n.lawful),
  names_accepted a c (x ∷ xs) h e n.once n.few,
  s,
)

-- ---- the lines of a document

abbrev named_above : WeightsLine → (controls symbols items : List (List ℕ)) → Above
named_above u c s i = record { weights = u; controls = c; symbols = s; items = i; rules = 0; queries = 0 }

items_word : (u : WeightsLine) → item_word u ≡ class_word (item_class u)
items_word Reach = refl
items_word (Cost cap) = refl
items_word GenKill = refl
items_word Copy = refl
items_word Relation = refl

items_more : (u : WeightsLine) (c s xs : List (List ℕ)) → with_line (named_above u c s []) (OfNames (item_class u) xs) ≡ named_above u c s xs
items_more Reach c s xs = refl
items_more (Cost cap) c s xs = refl
items_more GenKill c s xs = refl
items_more Copy c s xs = refl
items_more Relation c s xs = refl

items_above : (u : WeightsLine) (c s : List (List ℕ)) → class_names (named_above u c s []) (item_class u) ≡ []
items_above Reach c s = refl
items_above (Cost cap) c s = refl
items_above GenKill c s = refl
items_above Copy c s = refl
items_above Relation c s = refl

names_give_none : {A : Type 0} (g : Above → LineForm → List A) → ((a : Above) (c : Class) (xs : List (List ℕ)) → g a (OfNames c xs) ≡ []) → (a : Above) (c : Class) (xs : List (List ℕ)) → collected g a (names_forms c xs) ≡ []
names_give_none g k a c [] = refl
names_give_none g k a c (x ∷ xs) = ap (λ ys. ys ++ []) (k a c (x ∷ xs))

module _ (d : Document) (h : IsDocument d) (write : (w : WeightText) → IsWeightText d.weights (length d.items) w → WeightIs d.weights d.items w) where
  abbrev all : ℕ
  all = length d.symbols

  abbrev first : Above
  first = named_above d.weights [] [] []

  abbrev names_texts : List (List ℕ)
  names_texts = names_lines (codes "controls") d.controls ++ names_lines (codes "symbols") d.symbols ++ names_lines (item_word d.weights) d.items

  abbrev all_names : List LineForm
  all_names = names_forms Controls d.controls ++ names_forms Symbols d.symbols ++ names_forms (item_class d.weights) d.items

  controls_written : AreWritten all first (names_lines (codes "controls") d.controls) (names_forms Controls d.controls) (named_above d.weights d.controls [] [])
  controls_written = names_written all first (named_above d.weights d.controls [] []) Controls d.controls (inl refl) refl h.controls refl (λ e. ap (λ c. named_above d.weights c [] []) (sym e))

  symbols_written : AreWritten all (named_above d.weights d.controls [] []) (names_lines (codes "symbols") d.symbols) (names_forms Symbols d.symbols) (named_above d.weights d.controls d.symbols [])
  symbols_written = names_written all (named_above d.weights d.controls [] []) (named_above d.weights d.controls d.symbols []) Symbols d.symbols (inl refl) refl h.symbols refl (λ e. ap (λ s. named_above d.weights d.controls s []) (sym e))

  items_written : AreWritten all (named_above d.weights d.controls d.symbols []) (names_lines (item_word d.weights) d.items) (names_forms (item_class d.weights) d.items) (named_above d.weights d.controls d.symbols d.items)
  items_written =
      subst (λ word. AreWritten all (named_above d.weights d.controls d.symbols []) (names_lines word d.items) (names_forms (item_class d.weights) d.items) (named_above d.weights d.controls d.symbols d.items)) (sym (items_word d.weights))
      (names_written all (named_above d.weights d.controls d.symbols []) (named_above d.weights d.controls d.symbols d.items) (item_class d.weights) d.items h.has_items
      (items_above d.weights d.controls d.symbols) h.items (items_more d.weights d.controls d.symbols d.items)
      (λ e. ap (λ i. named_above d.weights d.controls d.symbols i) (sym e)))

  all_names_written : AreWritten all first names_texts all_names (above_at d 0 0)
  all_names_written =
      written_both all first (named_above d.weights d.controls d.symbols []) (above_at d 0 0)
      (names_lines (codes "controls") d.controls ++ names_lines (codes "symbols") d.symbols) (names_lines (item_word d.weights) d.items)
      (names_forms Controls d.controls ++ names_forms Symbols d.symbols) (names_forms (item_class d.weights) d.items)
      (written_both all first (named_above d.weights d.controls [] []) (named_above d.weights d.controls d.symbols [])
      (names_lines (codes "controls") d.controls) (names_lines (codes "symbols") d.symbols) (names_forms Controls d.controls) (names_forms Symbols d.symbols) controls_written symbols_written)
      items_written

  names_collected : {A : Type 0} (g : Above → LineForm → List A) → ((a : Above) (c : Class) (xs : List (List ℕ)) → g a (OfNames c xs) ≡ []) → collected g first all_names ≡ []
  names_collected g k =
      collected_both g all first (named_above d.weights d.controls d.symbols []) (names_lines (codes "controls") d.controls ++ names_lines (codes "symbols") d.symbols) (names_forms Controls d.controls ++ names_forms Symbols d.symbols) (names_forms (item_class d.weights) d.items)
      (written_both all first (named_above d.weights d.controls [] []) (named_above d.weights d.controls d.symbols [])
      (names_lines (codes "controls") d.controls) (names_lines (codes "symbols") d.symbols) (names_forms Controls d.controls) (names_forms Symbols d.symbols) controls_written symbols_written)
      ∙ ap₂ (λ xs ys. xs ++ ys)
      (collected_both g all first (named_above d.weights d.controls [] []) (names_lines (codes "controls") d.controls) (names_forms Controls d.controls) (names_forms Symbols d.symbols) controls_written
      ∙ ap₂ (λ xs ys. xs ++ ys) (names_give_none g k first Controls d.controls) (names_give_none g k (named_above d.weights d.controls [] []) Symbols d.symbols))
      (names_give_none g k (named_above d.weights d.controls d.symbols []) (item_class d.weights) d.items)

  -- rules

  weight_at : (r : RuleLine) → IsRuleOf d r → WeightIs d.weights d.items r.weight
  weight_at r k = write r.weight k.weight

  abbrev form_at : (r : RuleLine) → IsRuleOf d r → LineForm
  form_at r k = OfRule (rule_form d r (weight_at r k))

  abbrev rule_forms : (rs : List RuleLine) → All (IsRuleOf d) rs → List LineForm
  rule_forms [] k = []
  rule_forms (r ∷ rs) k = form_at r (All-head (IsRuleOf d) r rs k) ∷ rule_forms rs (All-tail (IsRuleOf d) r rs k)

  rules_written : (rs : List RuleLine) (k : All (IsRuleOf d) rs) → All HasMap (map (λ r. r.map) rs) → (m : ℕ) → m + length rs ≤ most_rules → AreWritten all (above_at d m 0) (map (rule_text d) rs) (rule_forms rs k) (above_at d (m + length rs) 0)
  rules_written [] k s m l = ap (λ n. above_at d n 0) (omega arith)
  rules_written (r ∷ rs) k s m l =
      let one = All-head (IsRuleOf d) r rs k in
      let w = weight_at r one in
      let rest = rules_written rs (All-tail (IsRuleOf d) r rs k) (All-tail HasMap r.map (map (λ x. x.map) rs) s) (m + 1) (omega arith) in
      let same : m + 1 + length rs ≡ m + length (r ∷ rs) = omega arith in (
        says_rule d h.controls.lawful h.symbols.lawful h.items.lawful h.controls.once h.symbols.once h.items.once r one w,
        form_rule d h.controls.lawful h.symbols.lawful h.items.lawful h.controls.once h.symbols.once h.items.once r one w (All-head HasMap r.map (map (λ x. x.map) rs) s),
        rule_accepted d h.controls.lawful h.symbols.lawful h.items.lawful h.controls.once h.symbols.once h.items.once r one w m 0 (omega arith),
        subst (λ n. AreWritten all (above_at d (m + 1) 0) (map (rule_text d) rs) (rule_forms rs (All-tail (IsRuleOf d) r rs k)) (above_at d n 0)) same rest,
      )

  rules_collected : (rs : List RuleLine) (k : All (IsRuleOf d) rs) (m : ℕ) → collected rules_on (above_at d m 0) (rule_forms rs k) ≡ rs
  rules_collected [] k m = refl
  rules_collected (r ∷ rs) k m =
      let one = All-head (IsRuleOf d) r rs k in
      ap₂ (λ x xs. x ∷ xs)
      (value_rule d h.controls.lawful h.symbols.lawful h.items.lawful h.controls.once h.symbols.once h.items.once r one (weight_at r one) m 0)
      (rules_collected rs (All-tail (IsRuleOf d) r rs k) (m + 1))

  no_queries_in_rules : (rs : List RuleLine) (k : All (IsRuleOf d) rs) (m : ℕ) → collected queries_on (above_at d m 0) (rule_forms rs k) ≡ []
  no_queries_in_rules [] k m = refl
  no_queries_in_rules (r ∷ rs) k m = no_queries_in_rules rs (All-tail (IsRuleOf d) r rs k) (m + 1)

  -- queries

  abbrev query_forms : List QueryLine → List LineForm
  query_forms qs = map (query_form d) qs

  queries_written : (qs : List QueryLine) → All (IsQueryOf d) qs → All HasSets qs → (m n : ℕ) → n + length qs ≤ most_queries → AreWritten all (above_at d m n) (map (query_text d) qs) (query_forms qs) (above_at d m (n + length qs))
  queries_written [] k s m n l = ap (λ j. above_at d m j) (omega arith)
  queries_written (q ∷ qs) k s m n l =
      let one = All-head (IsQueryOf d) q qs k in
      let rest = queries_written qs (All-tail (IsQueryOf d) q qs k) (All-tail HasSets q qs s) m (n + 1) (omega arith) in
      let same : n + 1 + length qs ≡ n + length (q ∷ qs) = omega arith in (
        says_query d h.controls.lawful h.symbols.lawful h.controls.once h.symbols.once q one,
        form_query d h.controls.lawful h.symbols.lawful h.controls.once h.symbols.once q (All-head HasSets q qs s),
        query_accepted d h.controls.lawful h.symbols.lawful h.controls.once h.symbols.once (above_at d m n) refl refl q one (omega arith),
        subst (λ j. AreWritten all (above_at d m (n + 1)) (map (query_text d) qs) (query_forms qs) (above_at d m j)) same rest,
      )

  queries_collected : (qs : List QueryLine) → All (IsQueryOf d) qs → (m n : ℕ) → collected queries_on (above_at d m n) (query_forms qs) ≡ qs
  queries_collected [] k m n = refl
  queries_collected (q ∷ qs) k m n =
      ap₂ (λ x xs. x ∷ xs)
      (value_query d h.controls.lawful h.symbols.lawful h.controls.once h.symbols.once (above_at d m n) refl refl q (All-head (IsQueryOf d) q qs k))
      (queries_collected qs (All-tail (IsQueryOf d) q qs k) m (n + 1))

  no_rules_in_queries : (qs : List QueryLine) (m n : ℕ) → collected rules_on (above_at d m n) (query_forms qs) ≡ []
  no_rules_in_queries [] m n = refl
  no_rules_in_queries (q ∷ qs) m n = no_rules_in_queries qs m (n + 1)

  some_query_form : (qs : List QueryLine) → qs ≢ [] → list_any is_query (query_forms qs) ≡ true
  some_query_form [] s = absurd (s refl)
  some_query_form (q ∷ qs) s = refl

  -- ---- all

  abbrev rules_end : Above
  rules_end = above_at d (length d.rules) 0

  abbrev last : Above
  last = above_at d (length d.rules) (length d.queries)

  abbrev all_rules : List LineForm
  all_rules = rule_forms d.rules h.rules

  abbrev body_forms : List LineForm
  body_forms = all_names ++ all_rules ++ query_forms d.queries

  abbrev body_texts : List (List ℕ)
  body_texts = names_texts ++ map (rule_text d) d.rules ++ map (query_text d) d.queries

  rules_are : AreWritten all (above_at d 0 0) (map (rule_text d) d.rules) all_rules rules_end
  rules_are =
      let few = h.few_rules in
      let same : 0 + length d.rules ≡ length d.rules = omega arith in
      subst (λ n. AreWritten all (above_at d 0 0) (map (rule_text d) d.rules) all_rules (above_at d n 0)) same (rules_written d.rules h.rules h.maps 0 (omega arith))

  queries_are : AreWritten all rules_end (map (query_text d) d.queries) (query_forms d.queries) last
  queries_are =
      let few = h.few_queries in
      let same : 0 + length d.queries ≡ length d.queries = omega arith in
      subst (λ n. AreWritten all rules_end (map (query_text d) d.queries) (query_forms d.queries) (above_at d (length d.rules) n)) same (queries_written d.queries h.queries h.sets (length d.rules) 0 (omega arith))

  names_and_rules : AreWritten all first (names_texts ++ map (rule_text d) d.rules) (all_names ++ all_rules) rules_end
  names_and_rules = written_both all first (above_at d 0 0) rules_end names_texts (map (rule_text d) d.rules) all_names all_rules all_names_written rules_are

  body_written : AreWritten all first body_texts body_forms last
  body_written = written_both all first rules_end last (names_texts ++ map (rule_text d) d.rules) (map (query_text d) d.queries) (all_names ++ all_rules) (query_forms d.queries) names_and_rules queries_are

  body_collected : {A : Type 0} (g : Above → LineForm → List A) → ((a : Above) (c : Class) (xs : List (List ℕ)) → g a (OfNames c xs) ≡ []) → collected g first body_forms ≡ collected g (above_at d 0 0) all_rules ++ collected g rules_end (query_forms d.queries)
  body_collected g k =
      collected_both g all first rules_end (names_texts ++ map (rule_text d) d.rules) (all_names ++ all_rules) (query_forms d.queries) names_and_rules
      ∙ ap (λ xs. xs ++ collected g rules_end (query_forms d.queries))
      (collected_both g all first (above_at d 0 0) names_texts all_names all_rules all_names_written
      ∙ ap (λ xs. xs ++ collected g (above_at d 0 0) all_rules) (names_collected g k))

  body_rules : collected rules_on first body_forms ≡ d.rules
  body_rules =
      body_collected rules_on (λ a c xs. refl)
      ∙ ap₂ (λ xs ys. xs ++ ys) (rules_collected d.rules h.rules 0) (no_rules_in_queries d.queries (length d.rules) 0)
      ∙ append-nil d.rules

  body_queries : collected queries_on first body_forms ≡ d.queries
  body_queries =
      body_collected queries_on (λ a c xs. refl)
      ∙ ap₂ (λ xs ys. xs ++ ys) (no_queries_in_rules d.rules h.rules 0) (queries_collected d.queries h.queries (length d.rules) 0)

  abbrev weights : WeightsForm
  weights = weights_form d.weights

  begun : above_of (OfWeights weights ∷ []) ≡ first
  begun = ap (λ u. named_above u [] [] []) (weights_again d.weights h.weights)

  body_at : AreWritten all (above_of (OfWeights weights ∷ [])) body_texts body_forms last
  body_at = subst (λ a. AreWritten all a body_texts body_forms last) (sym begun) body_written

  above_all : above_of (OfWeights weights ∷ body_forms) ≡ last
  above_all = reached all weights [] last body_texts body_forms body_at

  rules_again : gathered rules_on (OfWeights weights ∷ []) body_forms ≡ d.rules
  rules_again = gathered_is all weights rules_on [] last body_texts body_forms body_at ∙ ap (λ a. collected rules_on a body_forms) begun ∙ body_rules

  queries_again : gathered queries_on (OfWeights weights ∷ []) body_forms ≡ d.queries
  queries_again = gathered_is all weights queries_on [] last body_texts body_forms body_at ∙ ap (λ a. collected queries_on a body_forms) begun ∙ body_queries

  same_document : d ≡ document_of (OfWeights weights ∷ body_forms)
  same_document =
      sym (ap (λ a. record { weights = a.weights; controls = a.controls; symbols = a.symbols; items = a.items; rules = gathered rules_on (OfWeights weights ∷ []) body_forms; queries = gathered queries_on (OfWeights weights ∷ []) body_forms }) above_all
      ∙ ap₂ (λ rs qs. record { weights = d.weights; controls = d.controls; symbols = d.symbols; items = d.items; rules = rs; queries = qs }) rules_again queries_again)

  any_right : (fs gs : List LineForm) → list_any is_query gs ≡ true → list_any is_query (fs ++ gs) ≡ true
  any_right [] gs k = k
  any_right (f ∷ fs) gs k = or_right (is_query f) (list_any is_query (fs ++ gs)) (any_right fs gs k)

  abbrev header_line : Counted
  header_line = record { number = 1; text = true; words = Some header_words; form = form_of header_words }

  abbrev weights_counted : Counted
  weights_counted = line_at 2 (OfWeights weights)

  weights_form_again : form_of (form_words (OfWeights weights)) ≡ Some (OfWeights weights)
  weights_form_again = form_again (weights_text d.weights) (OfWeights weights) (says_weights d.weights h.weights) refl

  abbrev counted_body : List Counted
  counted_body = said_lines 3 (map form_words body_forms)

  body_forms_again : forms counted_body ≡ body_forms
  body_forms_again = forms_said all 3 (above_of (OfWeights weights ∷ [])) last body_texts body_forms body_at

  all_forms_again : forms (weights_counted ∷ counted_body) ≡ OfWeights weights ∷ body_forms
  all_forms_again = forms_first weights_counted (OfWeights weights) counted_body weights_form_again ∙ ap (λ fs. OfWeights weights ∷ fs) body_forms_again

  module _ (cut : OneCutting) where
    counted_again : counted_lines (written d) ≡ header_line ∷ weights_counted ∷ counted_body
    counted_again =
        lines_said cut (codes "wpds 1" ∷ weights_text d.weights ∷ body_texts) (header_words ∷ form_words (OfWeights weights) ∷ map form_words body_forms)
        (says_words (codes "wpds 1") header_words says_header, refl, (says_words (weights_text d.weights) (form_words (OfWeights weights)) (says_weights d.weights h.weights), refl, lines_say all (above_of (OfWeights weights ∷ [])) last body_texts body_forms body_at))

    symbols_again : all_symbols (header_line ∷ weights_counted ∷ counted_body) ≡ all
    symbols_again = ap (λ fs. length (declared Symbols fs)) body_forms_again ∙ ap (λ a. length a.symbols) above_all

    accepted_again : AreAccepted all (header_line ∷ weights_counted ∷ counted_body)
    accepted_again =
        accepted_more (document_format all) [] (weights_counted ∷ counted_body) header_line refl
        (accepted_more (document_format all) (header_line ∷ []) counted_body weights_counted
        (ap (λ o. first_fault (by_form weights_conditions o)) weights_form_again ∙ weights_accepted d.weights h.weights)
        (accepted_rest all weights header_line weights_counted [] [] (forms_first weights_counted (OfWeights weights) [] weights_form_again) 3 last body_texts body_forms body_at))

    whole_again : missing (header_line ∷ weights_counted ∷ counted_body) ≡ None
    whole_again =
        ap (λ fs. if not (list_any is_query fs) then Some NothingAsked else None) all_forms_again
        ∙ ap (λ t. if not t then Some NothingAsked else None) (any_right (OfWeights weights ∷ (all_names ++ all_rules)) (query_forms d.queries) (some_query_form d.queries h.asked))

    pub read_back : length (written d) ≤ most_bytes → reads_as (written d) d
    read_back l = record {
      short = ap not (false_from_ne_true (nat_lt most_bytes (length (written d))) (λ e. absurd (omega (arith, ltb-true most_bytes (length (written d)) e))));
      accepted = subst (λ ls. AreAccepted (all_symbols ls) ls) (sym counted_again) (subst (λ n. AreAccepted n (header_line ∷ weights_counted ∷ counted_body)) (sym symbols_again) accepted_again);
      whole = ap missing counted_again ∙ whole_again;
      document = same_document ∙ ap document_of (sym all_forms_again) ∙ ap (λ ls. document_of (body ls)) (sym counted_again);
    }
