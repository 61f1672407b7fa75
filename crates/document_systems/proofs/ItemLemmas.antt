-- The item that comes next is not refused.
use Rattle.std.proofs.Common.{◌≡◌, ℕ, suc, ◌+◌, ◌*◌, ◌<◌, ◌≤◌, Bool, true, false, List, [], ◌∷◌, ◌++◌, length, get_or, take, drop, map, refl, sym, ap, ◌∙◌, subst, append-nil, append_assoc, take-append-drop, arith}
use Rattle.std.specs.Prelude.{nat_le, nat_lt, None, if◌then◌else◌}
use Rattle.std.proofs.lemmas.Bool.Decides.{nat_tests}
use Rattle.std.proofs.lemmas.List.{length-take-le, length-map, take_more, map-append}
use Rattle.config_patterns.specs.declared.item.Item.{Item}
use Rattle.config_patterns.specs.Membership.{PatternValue}
use Rattle.config_patterns.specs.Edges.{edges_of, finals_of}
use Rattle.config_patterns.specs.Fault.{item_fault}
use Rattle.config_patterns.specs.Validity.{is_set}
use Rattle.config_patterns.proofs.CallerLemmas.{count_push, finals_push}
use Rattle.document_forms.specs.declared.pattern.ItemText.{ItemText}
use Rattle.document_forms.specs.declared.pattern.PatternText.{PatternText}
use Rattle.document_forms.specs.Kinds.{edges}
use Rattle.document_forms.specs.Lawful.{IsPatternText, IsSetText, item_count}
use Rattle.document_systems.specs.Systems.{item_of, set_of}
use Rattle.document_systems.proofs.LineLemmas.{is_below}
use Rattle.document_systems.proofs.SetLemmas.{none_outside, sets_are_once, set_length}

-- ---- edges are counted item by item

module _ (n : ℕ) where
  abbrev means : List ItemText → List Item
  means ts = map (item_of n) ts

  abbrev edge_count : List Item → ℕ
  edge_count xs = length (edges_of xs)

  abbrev counts : List ItemText → List (ℕ × Bool)
  counts ts = map (item_count n) ts

  -- an item of so many symbols more, where so many states are final
  one_more : (e k size from : ℕ) (star : Bool) (rest : List (ℕ × Bool)) → k ≡ size
      → (e + k * (from + (if star then 1 else 0))) + edges (if star then suc from else 1) rest ≡ e + edges from ((size, star) ∷ rest)
  one_more e k size from true rest is =
      let finals : suc from ≡ from + 1 = omega arith in
      let more = ap (λ f. edges f rest) finals in
      let symbols = ap (λ c. c * (from + 1)) is in
      omega (arith, more, symbols)
  one_more e k size from false rest is =
      let finals : from + 0 ≡ from = omega arith in
      let symbols : k * (from + 0) ≡ size * from = ap (λ f. k * f) finals ∙ ap (λ c. c * from) is in
      omega (arith, symbols)

  counted : (xs : List Item) (ts : List ItemText) → edge_count (xs ++ means ts) ≡ edge_count xs + edges (finals_of xs) (counts ts)
  counted xs [] = ap edge_count (append-nil xs) ∙ (let k = edge_count xs in omega arith)
  counted xs (t ∷ ts) =
      let x = item_of n t in
      ap edge_count (sym (append_assoc xs (x ∷ []) (means ts)))
      ∙ counted (xs ++ x ∷ []) ts
      ∙ ap (λ e. e + edges (finals_of (xs ++ x ∷ [])) (counts ts)) (count_push x xs)
      ∙ ap (λ f. (edge_count xs + length x.set * (finals_of xs + (if x.star then 1 else 0))) + edges f (counts ts)) (finals_push x xs)
      ∙ one_more (edge_count xs) (length x.set) (item_count n t).0 (finals_of xs) t.star (counts ts) (set_length n t.set)

  -- ---- the item that comes next

  -- the items so far are few in their edges
  few_edges : (ts : List ItemText) (i : ℕ) (t : ItemText) → i < length ts → t ≡ get_or ts i t → edges 1 (map (item_count n) ts) ≤ 1000000
      → edge_count (means (take i ts) ++ item_of n t ∷ []) ≤ 1000000
  few_edges ts i t within is few =
      let more : take (i + 1) ts ≡ take i ts ++ t ∷ [] = take_more ts i t within ∙ ap (λ x. take i ts ++ x ∷ []) (sym is) in
      let grown : means (take (i + 1) ts) ≡ means (take i ts) ++ item_of n t ∷ [] = ap means more ∙ map-append (item_of n) (take i ts) (t ∷ []) in
      let whole : means (take (i + 1) ts) ++ means (drop (i + 1) ts) ≡ means ts = sym (map-append (item_of n) (take (i + 1) ts) (drop (i + 1) ts)) ∙ ap means (take-append-drop (i + 1) ts) in
      let part = counted (means (take (i + 1) ts)) (drop (i + 1) ts) in
      let all = counted [] ts in
      let same = ap edge_count whole in
      let here = ap edge_count grown in
      omega (arith, part, all, same, here, few)

  module _ (controls : ℕ) (text : PatternText) (is : IsPatternText n controls n text) (i : ℕ) (t : ItemText) (within : i < length text.items) (at : t ≡ get_or text.items i t) where
    abbrev before : PatternValue
    before = record { control = text.control; symbols = n; items = means (take i text.items) }

    own_set : IsSetText n t.set
    own_set = subst (λ (x : ItemText). IsSetText n x.set) (sym at) (is.items i t within)

    pub next_is_once : is_set (set_of n t.set) ≡ true
    next_is_once = sets_are_once n t.set own_set

    pub next_is_not_refused : item_fault before (set_of n t.set) t.star ≡ None
    next_is_not_refused =
        let count : length before.items ≡ i = length-map (take i text.items) (item_of n) ∙ length-take-le i text.items (omega (arith, within)) in
        let room : nat_le 1000 (length before.items) ≡ false = is_below 1000 (length before.items) (omega (arith, is.few)) in
        let few = few_edges text.items i t within at is.edges in
        let edges : nat_lt 1000000 (edge_count (means (take i text.items) ++ item_of n t ∷ [])) ≡ false = grind (arith, nat_tests) in
        rw (none_outside n t.set own_set, room, edges) refl
