-- What is read of a pattern and of a query.
use Rattle.std.proofs.Common.{◌≡◌, ℕ, Bool, true, false, not, ◌||◌, List, [], ◌∷◌, ◌++◌, length, map, refl, sym, ap, ◌∙◌, subst, append-nil, append_assoc, Option, Some, None}
use Rattle.std.specs.Prelude.{nat_lt, option_map, is_none, is_some, unwrap_or}
use Rattle.std.proofs.lemmas.Bool.{or_parts}
use Rattle.std.proofs.lemmas.List.Folds.{list_any-append}
use Rattle.wpds_base.specs.Limits.{most_items, most_edges}
use Rattle.wpds_port.specs.declared.Mark.TheVariants.{Arrow, Implies, Becomes, Differs, Colon, Semicolon, Comma, Dot, Star, Plus, Minus, Equal, Question, Not, And, Or, Xor, Open, Close, OpenBrace, CloseBrace}
use Rattle.wpds_port.specs.declared.Word.{Word}
use Rattle.wpds_port.specs.declared.Word.TheVariants.{Name, Number, Mark as Sign}
use Rattle.wpds_port.specs.Words.{same_word, before, behind}
use Rattle.document_forms.specs.Words.{is_implies, ◌>>=◌}
use Rattle.document_forms.specs.Names.{is_among, number_in, has_unknown}
use Rattle.document_forms.specs.Patterns.{ItemForm, PatternForm, items_of, pattern_of}
use Rattle.document_forms.specs.Forms.{OfQuery, query_of}
use Rattle.document_forms.specs.Kinds.{item_size, edges, is_large, pattern_symbols, has_symbol_twice}
use Rattle.document_forms.specs.Lawful.{item_count}
use Rattle.document_forms.specs.Documents.{item_value, pattern_value}
use Rattle.document_reader.specs.declared.items.ItemRead.{ItemRead}
use Rattle.document_reader.specs.declared.patterns.ItemsRead.{ItemsRead}
use Rattle.document_reader.specs.declared.patterns.PatternRead.{PatternRead}
use Rattle.document_reader.specs.declared.queries.QueryRead.{QueryRead}
use Rattle.document_reader.specs.private.ItemReading.{HasItem, AreItemsRead, HasItems}
use Rattle.rule_reader.specs.Names.{number_among}
use Rattle.document_reader.specs.QueryReading.{is_amiss, IsPatternRead, IsQueryFrom}
use Rattle.document_reader.proofs.SetLemmas.{regroup, unknown_push, known_number}

-- ---- items

pub no_items_read :
    (symbols : List (List ℕ)) (ws : List Word) (r : ItemsRead) → AreItemsRead symbols [] r
    → HasItems symbols ws r ws
no_items_read symbols ws r h = record { items = []; ahead = go (items_of ws); read = h }
  where
    go : (o : Option (List ItemForm)) → o ≡ option_map (λ is. [] ++ is) o
    go None = refl
    go (Some is) = refl

pub items_ahead :
    (symbols : List (List ℕ)) (ws left : List Word) (r q : ItemsRead) (i : ItemRead) (h : HasItems symbols ws r left) (g : HasItem symbols left i)
    → AreItemsRead symbols (h.items ++ g.item ∷ []) q → HasItems symbols ws q i.rest
items_ahead symbols ws left r q i h g read = record {
  items = h.items ++ g.item ∷ [];
  ahead = h.ahead ∙ (ap (option_map (λ is. h.items ++ is)) g.items ∙ go (items_of i.rest));
  read = read;
}
  where
    go :
        (o : Option (List ItemForm))
        → option_map (λ is. h.items ++ is) (option_map (λ is. g.item ∷ is) o) ≡ option_map (λ is. (h.items ++ g.item ∷ []) ++ is) o
    go None = refl
    go (Some is) = ap Some (sym (append_assoc h.items (g.item ∷ []) is))

-- ---- a pattern

pub none_test : (o : Option ℕ) (b : Bool) → is_some o ≡ not b → b ≡ is_none o
none_test None true h = refl
none_test None false h = cc
none_test (Some x) true h = cc
none_test (Some x) false h = refl

abbrev pub pattern_with : (symbols : List (List ℕ)) (ws : List Word) (r : ItemsRead) → HasItems symbols ws r [] → List ℕ → PatternForm
pattern_with symbols ws r h x = record { control = x; items = h.items }

pub pattern_found :
    (symbols : List (List ℕ)) (ws text items : List Word) (x : List ℕ) (r : ItemsRead) (h : HasItems symbols items r [])
    → ws ≡ Name x ∷ text → text ≡ Sign Colon ∷ items
    → pattern_of ws ≡ Some (pattern_with symbols items r h x)
pattern_found symbols ws text items x r h e g =
    ap pattern_of (e ∙ ap (λ vs. Name x ∷ vs) g)
    ∙ ap (option_map (λ is. record { control = x; items = is })) (h.ahead ∙ ap Some (append-nil h.items))

large_read :
    (all : ℕ) (symbols : List (List ℕ)) (is : List ItemForm) (r : ItemsRead)
    → AreItemsRead symbols is r
    → (r.long || nat_lt most_edges (edges 1 (map (item_count all) r.items.items))) ≡ (nat_lt most_items (length is) || nat_lt most_edges (edges 1 (map (item_size all) is)))
large_read all symbols is r h = go r.long refl
  where
    go :
        (b : Bool) → r.long ≡ b
        → (r.long || nat_lt most_edges (edges 1 (map (item_count all) r.items.items))) ≡ (nat_lt most_items (length is) || nat_lt most_edges (edges 1 (map (item_size all) is)))
    go true e = rw (sym h.long, e) refl
    go false e = rw (sym h.long, e) (ap (λ ks. nat_lt most_edges (edges 1 ks)) (h.counts e all))

pub pattern_read :
    (all : ℕ) (controls symbols : List (List ℕ)) (ws : List Word) (x : List ℕ) (r : ItemsRead) (q : PatternRead) (number : Option ℕ) (h : HasItems symbols ws r [])
    → number ≡ number_among controls x → q.pattern.control ≡ unwrap_or number 0
    → q.pattern.items ≡ r.items.items → q.faults.twice ≡ r.twice
    → q.faults.unknown ≡ (is_none number || r.unknown)
    → q.faults.count ≡ (r.long || nat_lt most_edges (edges 1 (map (item_count all) r.items.items)))
    → IsPatternRead all controls symbols (pattern_with symbols ws r h x) q
pattern_read all controls symbols ws x r q number h n control items twice unknown count = record {
  twice = twice ∙ h.read.twice;
  unknown = unknown ∙ (ap (λ o. is_none o || r.unknown) n ∙ (ap (λ b. b || r.unknown) (sym (unknown_push controls [] x)) ∙ ap (λ b. has_unknown controls (x ∷ []) || b) h.read.unknown));
  count = count ∙ large_read all symbols h.items r h.read;
  value = λ e.
      let fine = or_parts (q.faults.twice || q.faults.unknown) q.faults.count e in
      let known = or_parts q.faults.twice q.faults.unknown fine.0 in
      let names = or_parts (is_none number) r.unknown (sym unknown ∙ known.1) in
      same (control ∙ (ap (λ o. unwrap_or o 0) n ∙ known_number controls x 0 (ap is_none (sym n) ∙ names.0)))
      (items ∙ h.read.value (short r.long (sym count ∙ fine.1)) names.1);
}
  where
    short :
        (b : Bool) → (b || nat_lt most_edges (edges 1 (map (item_count all) r.items.items))) ≡ false
        → b ≡ false
    short b e = (or_parts b _ e).0

    same :
        q.pattern.control ≡ number_in controls x
        → q.pattern.items ≡ map (item_value symbols) h.items
        → q.pattern ≡ pattern_value controls symbols (pattern_with symbols ws r h x)
    same a b = subst (λ n. q.pattern ≡ record { control = n; items = map (item_value symbols) h.items }) a (subst (λ is. q.pattern ≡ record { control = q.pattern.control; items = is }) b refl)

-- ---- a query

-- The mark at which a query is cut is the one that the definition names.
implies_same : (w : Word) → same_word (Sign Implies) w ≡ is_implies w
implies_same (Name x) = refl
implies_same (Number x) = refl
implies_same (Sign Arrow) = refl
implies_same (Sign Implies) = refl
implies_same (Sign Becomes) = refl
implies_same (Sign Differs) = refl
implies_same (Sign Colon) = refl
implies_same (Sign Semicolon) = refl
implies_same (Sign Comma) = refl
implies_same (Sign Dot) = refl
implies_same (Sign Star) = refl
implies_same (Sign Plus) = refl
implies_same (Sign Minus) = refl
implies_same (Sign Equal) = refl
implies_same (Sign Question) = refl
implies_same (Sign Not) = refl
implies_same (Sign And) = refl
implies_same (Sign Or) = refl
implies_same (Sign Xor) = refl
implies_same (Sign Open) = refl
implies_same (Sign Close) = refl
implies_same (Sign OpenBrace) = refl
implies_same (Sign CloseBrace) = refl

before_same : (ws : List Word) → before (same_word (Sign Implies)) ws ≡ before is_implies ws
before_same [] = refl
before_same (w ∷ ws) = rw (implies_same w, before_same ws) refl

behind_same : (ws : List Word) → behind (same_word (Sign Implies)) ws ≡ behind is_implies ws
behind_same [] = refl
behind_same (w ∷ ws) = rw (implies_same w, behind_same ws) refl

pub query_found :
    (ws front back : List Word) (p q : PatternForm) → front ≡ before (same_word (Sign Implies)) ws
    → Some back ≡ behind (same_word (Sign Implies)) ws → pattern_of front ≡ Some p
    → pattern_of back ≡ Some q → query_of ws ≡ Some (OfQuery p q)
query_found ws front back p q f b hp hq = rw (sym (before_same ws), sym (behind_same ws), sym f, sym b, hp, hq) refl

pub no_query_to :
    (ws back : List Word) → Some back ≡ behind (same_word (Sign Implies)) ws
    → pattern_of back ≡ None → query_of ws ≡ None
no_query_to ws back b h = go (pattern_of (before is_implies ws)) (sym (behind_same ws) ∙ sym b)
  where
    go :
        (o : Option PatternForm) → behind is_implies ws ≡ Some back
        → (o >>= (λ p. behind is_implies ws >>= (λ text. pattern_of text >>= (λ q. Some (OfQuery p q))))) ≡ None
    go None e = refl
    go (Some p) e = rw (e, h) refl

-- unknown controls and symbols of both
either_unknown :
    (controls symbols : List (List ℕ)) (x y : List ℕ) (xs ys : List (List ℕ))
    → ((has_unknown controls (x ∷ []) || has_unknown symbols xs) || (has_unknown controls (y ∷ []) || has_unknown symbols ys)) ≡ (has_unknown controls (x ∷ y ∷ []) || has_unknown symbols (xs ++ ys))
either_unknown controls symbols x y xs ys =
    regroup (has_unknown controls (x ∷ [])) (has_unknown symbols xs) (has_unknown controls (y ∷ [])) (has_unknown symbols ys)
    ∙ (ap (λ b. b || (has_unknown symbols xs || has_unknown symbols ys)) (sym (list_any-append (λ z. not (is_among controls z)) (x ∷ []) (y ∷ [])))
    ∙ ap (λ b. has_unknown controls (x ∷ y ∷ []) || b) (sym (list_any-append (λ z. not (is_among symbols z)) xs ys)))

pub query_read :
    (all : ℕ) (controls symbols : List (List ℕ)) (p q : PatternForm) (r s : PatternRead) (t : QueryRead)
    → IsPatternRead all controls symbols p r → IsPatternRead all controls symbols q s
    → t.query.from ≡ r.pattern → t.query.to ≡ s.pattern
    → t.faults.twice ≡ (r.faults.twice || s.faults.twice)
    → t.faults.unknown ≡ (r.faults.unknown || s.faults.unknown)
    → t.faults.count ≡ (r.faults.count || s.faults.count) → IsQueryFrom all controls symbols p q t
query_read all controls symbols p q r s t h g from to twice unknown count = record {
  twice = twice ∙ (ap (λ b. b || s.faults.twice) h.twice ∙ ap (λ b. has_symbol_twice p || b) g.twice);
  unknown = unknown ∙ (ap (λ b. b || s.faults.unknown) h.unknown ∙ (ap (λ b. (has_unknown controls (p.control ∷ []) || has_unknown symbols (pattern_symbols p)) || b) g.unknown ∙ either_unknown controls symbols p.control q.control (pattern_symbols p) (pattern_symbols q)));
  count = count ∙ (ap (λ b. b || s.faults.count) h.count ∙ ap (λ b. is_large all p || b) g.count);
  from = λ e. from ∙ h.value (fine e).0;
  to = λ e. to ∙ g.value (fine e).1;
}
  where
    neither :
        (a b c d e f : Bool) → (((a || b) || (c || d)) || (e || f)) ≡ false
        → (((a || c) || e) ≡ false) × (((b || d) || f) ≡ false)
    neither a b c d e f z =
        let x = or_parts ((a || b) || (c || d)) (e || f) z in
        let y = or_parts (a || b) (c || d) x.0 in
        let u = or_parts a b y.0 in
        let v = or_parts c d y.1 in
        let w = or_parts e f x.1 in
        (rw (u.0, v.0, w.0) refl, rw (u.1, v.1, w.1) refl)

    fine : is_amiss t.faults ≡ false → (is_amiss r.faults ≡ false) × (is_amiss s.faults ≡ false)
    fine e = neither r.faults.twice s.faults.twice r.faults.unknown s.faults.unknown r.faults.count s.faults.count
        (subst (λ b. ((b || (r.faults.unknown || s.faults.unknown)) || (r.faults.count || s.faults.count)) ≡ false) twice
        (subst (λ b. ((t.faults.twice || b) || (r.faults.count || s.faults.count)) ≡ false) unknown
        (subst (λ b. ((t.faults.twice || t.faults.unknown) || b) ≡ false) count e)))
