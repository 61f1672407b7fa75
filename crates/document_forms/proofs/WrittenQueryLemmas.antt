-- A query is read as it is written.
use Rattle.std.proofs.Common.{◌≡◌, ℕ, ◌<◌, ◌≤◌, Bool, true, false, ◌||◌, List, [], ◌∷◌, ◌++◌, map, length, None, refl, sym, ap, ap₂, ◌∙◌, subst, append-nil, arith}
use Rattle.std.specs.Prelude.{All, codes, flat_map, nat_le, nat_lt, if◌then◌else◌}
use Rattle.std.specs.List.{list_any}
use Rattle.std.proofs.lemmas.Bool.{and_from, or_from, false_from_ne_true, leb-true, ltb-true}
use Rattle.std.proofs.lemmas.List.Elements.{All-head, All-tail}
use Rattle.std.proofs.lemmas.List.{length-map}
use Rattle.wpds_base.specs.Faults.{first_fault}
use Rattle.wpds_base.specs.Limits.{most_queries, most_items, most_edges}
use Rattle.wpds_base.specs.Lists.{IsOnce}
use Rattle.wpds_port.specs.declared.Kind.TheVariants.{Twice, Unknown, Count}
use Rattle.wpds_port.specs.declared.Mark.TheVariants.{Implies, Colon, Dot, Star, OpenBrace, CloseBrace}
use Rattle.wpds_port.specs.declared.Word.TheVariants.{Name, Mark as Sign}
use Rattle.wpds_port.specs.Tokens.{stops}
use Rattle.document_forms.specs.declared.pattern.SetText.{SetText}
use Rattle.document_forms.specs.declared.pattern.SetText.TheVariants.{All as AllSymbols, Listed}
use Rattle.document_forms.specs.declared.pattern.ItemText.{ItemText}
use Rattle.document_forms.specs.declared.pattern.PatternText.{PatternText}
use Rattle.document_forms.specs.declared.document.QueryLine.{QueryLine}
use Rattle.document_forms.specs.Names.{has_twice, has_unknown, name}
use Rattle.document_forms.specs.Patterns.{SetForm, Dotted, Bare, Braced, ItemForm, PatternForm, item, set_words, star_words, items_words, is_set, are_items}
use Rattle.document_forms.specs.Forms.{LineForm, OfQuery}
use Rattle.document_forms.specs.FormWords.{pattern_words, form_words, is_form}
use Rattle.document_forms.specs.Above.{Above}
use Rattle.document_forms.specs.Kinds.{set_names, pattern_symbols, has_symbol_twice, set_size, item_size, edges, is_large, query_conditions}
use Rattle.document_forms.specs.Documents.{Document, set_value, item_value, pattern_value, query_value}
use Rattle.document_forms.specs.Writing.{spaced, set_text, item_text, pattern_text, query_text}
use Rattle.document_forms.specs.Lawful.{AreBelow, IsName, IsSetText, set_count, item_count, IsPatternText, IsQueryOf, HasSymbol, HasSets}
use Rattle.document_forms.proofs.WrittenWordLemmas.{Says, says_word, says_joined, says_glued, says_spaced, SayAll, say_more, say_one}
use Rattle.document_forms.proofs.LawfulLemmas.{known_both}
use Rattle.document_forms.proofs.WrittenNameLemmas.{name_among, number_named, numbers_named, known_more, names_known, none_named_twice, says_named, say_named}

-- ---- the forms

abbrev pub set_form : List (List ℕ) → SetText → (star : Bool) → SetForm
set_form symbols AllSymbols star = Dotted
set_form symbols (Listed (g ∷ [])) false = Bare (name symbols g)
set_form symbols (Listed gs) star = Braced (map (name symbols) gs)

abbrev pub item_form : List (List ℕ) → ItemText → ItemForm
item_form symbols i = item (set_form symbols i.set i.star) i.star

abbrev pub pattern_form : (controls symbols : List (List ℕ)) → PatternText → PatternForm
pattern_form controls symbols p = record {
  control = name controls p.control;
  items = map (item_form symbols) p.items;
}

abbrev pub query_form : Document → QueryLine → LineForm
query_form d q = OfQuery (pattern_form d.controls d.symbols q.from) (pattern_form d.controls d.symbols q.to)

-- ---- the words

module _ (symbols : List (List ℕ)) (named : All IsName symbols) where
  braces_open : (x : List ℕ) → stops (Sign OpenBrace) x ≡ true
  braces_open [] = refl
  braces_open (b ∷ x) = refl

  says_braced : (gs : List ℕ) → AreBelow (length symbols) gs → Says (codes "{" ++ (spaced (map (name symbols) gs) ++ codes "}")) (set_words (Braced (map (name symbols) gs)))
  says_braced gs b =
      says_glued (Sign OpenBrace) (spaced (map (name symbols) gs) ++ codes "}") (map Name (map (name symbols) gs) ++ Sign CloseBrace ∷ []) refl refl
      (λ rest. braces_open ((spaced (map (name symbols) gs) ++ codes "}") ++ rest))
      (says_joined (spaced (map (name symbols) gs)) 125 [] (map Name (map (name symbols) gs)) (Sign CloseBrace ∷ []) refl
      (says_spaced (map (name symbols) gs) (map Name (map (name symbols) gs)) (say_named symbols gs named b))
      (says_word (Sign CloseBrace) refl refl))

  says_set : (s : SetText) (star : Bool) → IsSetText (length symbols) s → Says (set_text symbols s star) (set_words (set_form symbols s star))
  says_set AllSymbols star h = says_word (Sign Dot) refl refl
  says_set (Listed []) star h = says_braced [] h.0
  says_set (Listed (g ∷ [])) false h = says_named symbols g named (All-head (λ k. k < length symbols) g [] h.0)
  says_set (Listed (g ∷ [])) true h = says_braced (g ∷ []) h.0
  says_set (Listed (g ∷ k ∷ gs)) star h = says_braced (g ∷ k ∷ gs) h.0

  says_item : (i : ItemText) → IsSetText (length symbols) i.set → Says (item_text symbols i) (set_words (set_form symbols i.set i.star) ++ star_words i.star)
  says_item i h = go i.star
    where
      go : (b : Bool) → Says (set_text symbols i.set b ++ (if b then codes "*" else [])) (set_words (set_form symbols i.set b) ++ star_words b)
      go true =
          says_joined (set_text symbols i.set true) 42 [] (set_words (set_form symbols i.set true)) (Sign Star ∷ []) refl
          (says_set i.set true h) (says_word (Sign Star) refl refl)
      go false =
          subst (λ x. Says x (set_words (set_form symbols i.set false) ++ [])) (sym (append-nil (set_text symbols i.set false)))
          (subst (Says (set_text symbols i.set false)) (sym (append-nil (set_words (set_form symbols i.set false)))) (says_set i.set false h))

  say_items : (is : List ItemText) → All (λ i. IsSetText (length symbols) i.set) is → SayAll (map (item_text symbols) is) (items_words (map (item_form symbols) is))
  say_items [] h = refl
  say_items (i ∷ is) h =
      let f = set_form symbols i.set i.star in
      say_more (item_text symbols i) (map (item_text symbols) is) (set_words f ++ star_words i.star) (items_words (map (item_form symbols) is))
      (says_item i (All-head (λ j. IsSetText (length symbols) j.set) i is h))
      (say_items is (All-tail (λ j. IsSetText (length symbols) j.set) i is h))

pub says_control : (controls : List (List ℕ)) (k : ℕ) → All IsName controls → k < length controls → Says (name controls k ++ codes ":") (Name (name controls k) ∷ Sign Colon ∷ [])
says_control controls k named h =
    says_joined (name controls k) 58 [] (Name (name controls k) ∷ []) (Sign Colon ∷ []) refl (says_named controls k named h) (says_word (Sign Colon) refl refl)

-- ---- what is asked of a pattern

module _ (all : ℕ) (symbols : List (List ℕ)) (once : IsOnce symbols) where
  braced_value : (gs : List ℕ) → AreBelow (length symbols) gs → set_value symbols (Braced (map (name symbols) gs)) ≡ Listed gs
  braced_value gs b = ap Listed (numbers_named symbols gs once b)

  value_set : (s : SetText) (star : Bool) → IsSetText (length symbols) s → set_value symbols (set_form symbols s star) ≡ s
  value_set AllSymbols star h = refl
  value_set (Listed []) star h = refl
  value_set (Listed (g ∷ [])) false h = ap (λ k. Listed (k ∷ [])) (number_named symbols g once (All-head (λ k. k < length symbols) g [] h.0))
  value_set (Listed (g ∷ [])) true h = braced_value (g ∷ []) h.0
  value_set (Listed (g ∷ k ∷ gs)) star h = braced_value (g ∷ k ∷ gs) h.0

  value_items : (is : List ItemText) → All (λ i. IsSetText (length symbols) i.set) is → map (item_value symbols) (map (item_form symbols) is) ≡ is
  value_items [] h = refl
  value_items (i ∷ is) h =
      ap₂ (λ s js. record { set = s; star = i.star } ∷ js)
      (value_set i.set i.star (All-head (λ j. IsSetText (length symbols) j.set) i is h))
      (value_items is (All-tail (λ j. IsSetText (length symbols) j.set) i is h))

  once_set : (s : SetText) (star : Bool) → IsSetText (length symbols) s → has_twice (set_names (set_form symbols s star)) ≡ false
  once_set AllSymbols star h = refl
  once_set (Listed []) star h = refl
  once_set (Listed (g ∷ [])) false h = refl
  once_set (Listed (g ∷ [])) true h = refl
  once_set (Listed (g ∷ k ∷ gs)) star h = none_named_twice symbols (g ∷ k ∷ gs) once h.0 h.1

  once_items : (is : List ItemText) → All (λ i. IsSetText (length symbols) i.set) is → list_any (λ i. has_twice (set_names i.set)) (map (item_form symbols) is) ≡ false
  once_items [] h = refl
  once_items (i ∷ is) h =
      or_from (has_twice (set_names (set_form symbols i.set i.star))) (list_any (λ j. has_twice (set_names j.set)) (map (item_form symbols) is))
      (once_set i.set i.star (All-head (λ j. IsSetText (length symbols) j.set) i is h))
      (once_items is (All-tail (λ j. IsSetText (length symbols) j.set) i is h))

  known_set : (s : SetText) (star : Bool) → IsSetText (length symbols) s → has_unknown symbols (set_names (set_form symbols s star)) ≡ false
  known_set AllSymbols star h = refl
  known_set (Listed []) star h = refl
  known_set (Listed (g ∷ [])) false h = names_known symbols (g ∷ []) h.0
  known_set (Listed (g ∷ [])) true h = names_known symbols (g ∷ []) h.0
  known_set (Listed (g ∷ k ∷ gs)) star h = names_known symbols (g ∷ k ∷ gs) h.0

  known_items : (is : List ItemText) → All (λ i. IsSetText (length symbols) i.set) is → has_unknown symbols (flat_map (λ i. set_names i.set) (map (item_form symbols) is)) ≡ false
  known_items [] h = refl
  known_items (i ∷ is) h =
      known_both symbols (set_names (set_form symbols i.set i.star)) (flat_map (λ j. set_names j.set) (map (item_form symbols) is))
      (known_set i.set i.star (All-head (λ j. IsSetText (length symbols) j.set) i is h))
      (known_items is (All-tail (λ j. IsSetText (length symbols) j.set) i is h))

  size_set : (s : SetText) (star : Bool) → set_size all (set_form symbols s star) ≡ set_count all s
  size_set AllSymbols star = refl
  size_set (Listed []) star = refl
  size_set (Listed (g ∷ [])) false = refl
  size_set (Listed (g ∷ [])) true = refl
  size_set (Listed (g ∷ k ∷ gs)) star = length-map (g ∷ k ∷ gs) (name symbols)

  size_items : (is : List ItemText) → map (item_size all) (map (item_form symbols) is) ≡ map (item_count all) is
  size_items [] = refl
  size_items (i ∷ is) = ap₂ (λ n ns. (n, i.star) ∷ ns) (size_set i.set i.star) (size_items is)

  some_set : (s : SetText) (star : Bool) → HasSymbol s → is_set (set_form symbols s star) ≡ true
  some_set AllSymbols star h = refl
  some_set (Listed []) star h = absurd (h refl)
  some_set (Listed (g ∷ [])) false h = refl
  some_set (Listed (g ∷ [])) true h = refl
  some_set (Listed (g ∷ k ∷ gs)) star h = refl

  some_items : (is : List ItemText) → All (λ i. HasSymbol i.set) is → are_items (map (item_form symbols) is) ≡ true
  some_items [] h = refl
  some_items (i ∷ is) h =
      and_from (is_set (set_form symbols i.set i.star)) (are_items (map (item_form symbols) is))
      (some_set i.set i.star (All-head (λ j. HasSymbol j.set) i is h)) (some_items is (All-tail (λ j. HasSymbol j.set) i is h))

pub not_more : (m n : ℕ) → n ≤ m → nat_lt m n ≡ false
not_more m n l = false_from_ne_true (nat_lt m n) (λ e. absurd (omega (arith, ltb-true m n e)))

pub not_full : (m n : ℕ) → n < m → nat_le m n ≡ false
not_full m n l = false_from_ne_true (nat_le m n) (λ e. absurd (omega (arith, leb-true m n e)))

-- ---- queries

module _ (d : Document) (controls_named : All IsName d.controls) (symbols_named : All IsName d.symbols) (controls_once : IsOnce d.controls) (symbols_once : IsOnce d.symbols) where
  abbrev IsPatternOf : PatternText → Type 0
  IsPatternOf p = IsPatternText (length d.symbols) (length d.controls) (length d.symbols) p

  abbrev form_at : PatternText → PatternForm
  form_at p = pattern_form d.controls d.symbols p

  says_pattern : (p : PatternText) → IsPatternOf p → Says (pattern_text d p) (pattern_words (form_at p))
  says_pattern p h =
      says_spaced ((name d.controls p.control ++ codes ":") ∷ map (item_text d.symbols) p.items) (pattern_words (form_at p))
      (say_more (name d.controls p.control ++ codes ":") (map (item_text d.symbols) p.items) (Name (name d.controls p.control) ∷ Sign Colon ∷ []) (items_words (map (item_form d.symbols) p.items))
      (says_control d.controls p.control controls_named h.control)
      (say_items d.symbols symbols_named p.items h.items))

  pub says_query : (q : QueryLine) → IsQueryOf d q → Says (query_text d q) (form_words (query_form d q))
  says_query q h =
      let f = pattern_words (form_at q.from) in
      let t = pattern_words (form_at q.to) in
      says_spaced (codes "query" ∷ pattern_text d q.from ∷ codes "=>" ∷ pattern_text d q.to ∷ []) (form_words (query_form d q))
      (say_more (codes "query") (pattern_text d q.from ∷ codes "=>" ∷ pattern_text d q.to ∷ []) (Name (codes "query") ∷ []) (f ++ Sign Implies ∷ t)
      (says_word (Name (codes "query")) refl refl)
      (say_more (pattern_text d q.from) (codes "=>" ∷ pattern_text d q.to ∷ []) f (Sign Implies ∷ t)
      (says_pattern q.from h.from)
      (say_more (codes "=>") (pattern_text d q.to ∷ []) (Sign Implies ∷ []) t
      (says_word (Sign Implies) refl refl)
      (say_one (pattern_text d q.to) t (says_pattern q.to h.to)))))

  pub form_query : (q : QueryLine) → HasSets q → is_form (query_form d q) ≡ true
  form_query q h =
      and_from (are_items (form_at q.from).items) (are_items (form_at q.to).items)
      (some_items 0 d.symbols symbols_once q.from.items h.0) (some_items 0 d.symbols symbols_once q.to.items h.1)

  value_pattern : (p : PatternText) → IsPatternOf p → pattern_value d.controls d.symbols (form_at p) ≡ p
  value_pattern p h =
      ap₂ (λ c is. record { control = c; items = is })
      (number_named d.controls p.control controls_once h.control) (value_items 0 d.symbols symbols_once p.items h.items)

  small_pattern : (p : PatternText) → IsPatternOf p → is_large (length d.symbols) (form_at p) ≡ false
  small_pattern p h =
      or_from (nat_lt most_items (length (map (item_form d.symbols) p.items))) (nat_lt most_edges (edges 1 (map (item_size (length d.symbols)) (map (item_form d.symbols) p.items))))
      (not_more most_items (length (map (item_form d.symbols) p.items)) (subst (λ n. n ≤ most_items) (sym (length-map p.items (item_form d.symbols))) h.few))
      (not_more most_edges (edges 1 (map (item_size (length d.symbols)) (map (item_form d.symbols) p.items)))
      (subst (λ is. edges 1 is ≤ most_edges) (sym (size_items (length d.symbols) d.symbols symbols_once p.items)) h.edges))

  module _ (a : Above) (controls : a.controls ≡ d.controls) (symbols : a.symbols ≡ d.symbols) where
    pub value_query : (q : QueryLine) → IsQueryOf d q → query_value a (form_at q.from) (form_at q.to) ≡ q
    value_query q h =
        ap₂ (λ c s. record { from = pattern_value c s (form_at q.from); to = pattern_value c s (form_at q.to) }) controls symbols
        ∙ ap₂ (λ f t. record { from = f; to = t }) (value_pattern q.from h.from) (value_pattern q.to h.to)

    pub query_accepted : (q : QueryLine) → IsQueryOf d q → a.queries < most_queries → first_fault (query_conditions (length d.symbols) a (form_at q.from) (form_at q.to)) ≡ None
    query_accepted q h few =
        let p = form_at q.from in
        let r = form_at q.to in
        let all = length d.symbols in
        let twice : (has_symbol_twice p || has_symbol_twice r) ≡ false =
        or_from (has_symbol_twice p) (has_symbol_twice r) (once_items 0 d.symbols symbols_once q.from.items h.from.items) (once_items 0 d.symbols symbols_once q.to.items h.to.items) in
        let known_controls : has_unknown a.controls (p.control ∷ r.control ∷ []) ≡ false =
        subst (λ c. has_unknown c (p.control ∷ r.control ∷ []) ≡ false) (sym controls)
        (known_more d.controls p.control (r.control ∷ []) (name_among d.controls q.from.control h.from.control) (known_more d.controls r.control [] (name_among d.controls q.to.control h.to.control) refl)) in
        let known_symbols : has_unknown a.symbols (pattern_symbols p ++ pattern_symbols r) ≡ false =
        subst (λ c. has_unknown c (pattern_symbols p ++ pattern_symbols r) ≡ false) (sym symbols)
        (known_both d.symbols (pattern_symbols p) (pattern_symbols r) (known_items 0 d.symbols symbols_once q.from.items h.from.items) (known_items 0 d.symbols symbols_once q.to.items h.to.items)) in
        let large : (is_large all p || is_large all r || nat_le most_queries a.queries) ≡ false =
        none3 (is_large all p) (is_large all r) (nat_le most_queries a.queries) (small_pattern q.from h.from) (small_pattern q.to h.to) (not_full most_queries a.queries few) in
        none (has_symbol_twice p || has_symbol_twice r) (has_unknown a.controls (p.control ∷ r.control ∷ []) || has_unknown a.symbols (pattern_symbols p ++ pattern_symbols r)) (is_large all p || is_large all r || nat_le most_queries a.queries)
        twice (or_from (has_unknown a.controls (p.control ∷ r.control ∷ [])) (has_unknown a.symbols (pattern_symbols p ++ pattern_symbols r)) known_controls known_symbols) large
      where
        none3 : (x y z : Bool) → x ≡ false → y ≡ false → z ≡ false → (x || y || z) ≡ false
        none3 x y z e f g = rw (e, f, g) refl

        none : (x y z : Bool) → x ≡ false → y ≡ false → z ≡ false → first_fault ((x, Twice) ∷ (y, Unknown) ∷ (z, Count) ∷ []) ≡ None
        none x y z e f g = rw (e, f, g) refl
