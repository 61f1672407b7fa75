-- The opening of a pattern reads what the pattern's edges read.
use Rattle.std.proofs.Common.{◌≡◌, inl, inr, ℕ, zero, suc, ◌+◌, ◌<◌, ◌≤◌, true, List, [], ◌∷◌, map, length, drop, refl, sym, ap, ap₂, ◌∙◌, subst, arith}
use Rattle.std.specs.Prelude.{◌↔◌, IsTrue, nat_eq, nat_le}
use Rattle.std.specs.List.{range_with_len, list_all}
use Rattle.std.proofs.lemmas.Bool.{and_parts, and_from, eqb-true, eq-eqb, leb-true}
use Rattle.weighted_automata.specs.declared.place.Place.{Place}
use Rattle.weighted_automata.specs.declared.place.Label.TheVariants.{Symbol}
use Rattle.pushdown_rules.specs.Configuration.{Configuration}
use Rattle.config_patterns.specs.declared.item.Item.{Item}
use Rattle.config_patterns.specs.declared.edge.Edge.{Edge}
use Rattle.config_patterns.specs.Membership.{PatternValue, has_member, items_match}
use Rattle.config_patterns.specs.Edges.{edges_of, is_final_of, is_starred}
use Rattle.config_patterns.specs.Paths.{IsRead}
use Rattle.config_patterns.specs.Paths.{Reads as EdgesRead}
use Rattle.config_patterns.proofs.CallerLemmas.{members_read}
use Rattle.wpds_base.specs.Lists.{IsIn}
use Rattle.saturation_laws.specs.Paths.{Reads, IsOpened}
use Rattle.pattern_openings.specs.PatternOpenings.{state_of, place_of_edge, finals_of_items, opening_of}
use Rattle.saturation_laws.proofs.CallerLemmas.{in_map, from_map, in_filter, from_filter, in_range}

edge_in : (e : Edge) (es : List Edge) → IsIn e es → IsIn e es
edge_in e [] h = elim h [ ]
edge_in e (d ∷ es) (inl same) = inl same
edge_in e (d ∷ es) (inr h) = inr (edge_in e es h)

pub in_edges : (e : Edge) (es : List Edge) → IsIn e es → IsIn e es
in_edges e [] h = elim h [ ]
in_edges e (d ∷ es) (inl same) = inl same
in_edges e (d ∷ es) (inr h) = inr (in_edges e es h)

module _ (controls control : ℕ) (low : control < controls) where
  abbrev f : ℕ → ℕ
  f i = state_of controls control i

  abbrev at : Edge → Place
  at e = place_of_edge controls control e

  once : (i j : ℕ) → f i ≡ f j → i ≡ j
  once zero zero e = refl
  once zero (suc j) e = let h : control ≡ controls + j = e in absurd (omega arith)
  once (suc i) zero e = let h : controls + i ≡ control = e in absurd (omega arith)
  once (suc i) (suc j) e = let h : controls + i ≡ controls + j = e in omega arith

  only_control : (i : ℕ) → f i < controls → i ≡ 0
  only_control zero less = refl
  only_control (suc i) less = let h : controls + i < controls = less in absurd (omega arith)

  reads_to : (edges : List Edge) (i : ℕ) (word : List ℕ) (j : ℕ) → EdgesRead edges i word j → Reads (map at edges) (f i) word (f j)
  reads_to edges i [] j reads = ap f reads
  reads_to edges i (g ∷ word) j reads =
      let e : Edge = record { from = i; symbol = g; to = reads.0 } in
      (f reads.0, in_map at e edges (edge_in e edges reads.1), reads_to edges reads.0 word j reads.2)

  -- What the edges of an opening read.
  pub record ReadsBack (edges : List Edge) (i : ℕ) (word : List ℕ) (q : ℕ) : Type 0 where
    pub to : ℕ
    pub is : f to ≡ q
    pub reads : EdgesRead edges i word to

  reads_from : (edges : List Edge) (i : ℕ) (word : List ℕ) (q : ℕ) → Reads (map at edges) (f i) word q → ReadsBack edges i word q
  reads_from edges i [] q reads = record { to = i; is = reads; reads = refl }
  reads_from edges i (g ∷ word) q reads =
      let back = from_map at _ edges reads.1 in
      let e = back.before in
      let from : e.from ≡ i = once e.from i (ap (λ (x : Place). x.from) back.is) in
      let label : Symbol e.symbol ≡ Symbol g = ap (λ (x : Place). x.label) back.is in
      let symbol : e.symbol ≡ g = cc in
      let to : f e.to ≡ reads.0 = ap (λ (x : Place). x.to) back.is in
      let same : e ≡ record { from = i; symbol = g; to = e.to } = ap₂ (λ n a. let x : Edge = record { from = n; symbol = a; to = e.to } in x) from symbol in
      let P : ℕ → Type 0 = λ n. Reads (map at edges) n word q in
      let rest = reads_from edges e.to word q (subst P (sym to) reads.2) in
      let Q : Edge → Type 0 = λ x. IsIn x edges in
      record { to = rest.to; is = rest.is; reads = (e.to, subst Q same (in_edges e edges back.there), rest.reads) }

  -- a control from which the opening's edges read to a state of the pattern is the pattern's
  from_pattern : (edges : List Edge) (c : ℕ) (word : List ℕ) (q k : ℕ) → c < controls → f k ≡ q → Reads (map at edges) c word q → c ≡ control
  from_pattern edges c [] q k less is reads =
      let here : f k < controls = let P : ℕ → Type 0 = λ n. n < controls in subst P (reads ∙ sym is) less in
      reads ∙ sym is ∙ ap f (only_control k here)
  from_pattern edges c (g ∷ word) q k less is reads =
      let back = from_map at _ edges reads.1 in
      let e = back.before in
      let from : f e.from ≡ c = ap (λ (x : Place). x.from) back.is in
      let here : f e.from < controls = let P : ℕ → Type 0 = λ n. n < controls in subst P (sym from) less in
      sym from ∙ ap f (only_control e.from here)

final_within : (items : List Item) (i : ℕ) → is_final_of items i ≡ true → i < 0 + suc (length items)
final_within items i final =
    let parts = and_parts (nat_le i (length items)) (list_all is_starred (drop i items)) final in
    let few : i ≤ length items = leb-true i (length items) parts.0 in omega arith

-- the final states are those of the test
pub is_final : (items : List Item) (i : ℕ) → is_final_of items i ≡ true → IsIn i (finals_of_items items)
is_final items i final = in_filter (is_final_of items) i (range_with_len 0 (suc (length items))) (in_range 0 (suc (length items)) i (omega arith) (final_within items i final)) final

-- the opening of a pattern reads the pattern's members, and no others
pub opening_reads : (pattern : PatternValue) (controls : ℕ) → pattern.control < controls → (d : Configuration) → d.control < controls
    → IsOpened (opening_of controls pattern) d ↔ IsTrue (has_member pattern d)
opening_reads pattern controls low d less =
    let items = pattern.items in
    let f : ℕ → ℕ = state_of controls pattern.control in
    let edges = map (place_of_edge controls pattern.control) (edges_of items) in (
      λ h.
          let q = h.0 in
          let final = from_map f q (finals_of_items items) h.2 in
          let is = (from_filter (is_final_of items) final.before (range_with_len 0 (suc (length items))) final.there).1 in
          let here = from_pattern controls pattern.control low (edges_of items) d.control d.stack q final.before less final.is h.1 in
          let R : ℕ → Type 0 = λ n. Reads edges n d.stack q in
          let back = reads_from controls pattern.control low (edges_of items) 0 d.stack q (subst R here h.1) in
          let same : final.before ≡ back.to = once controls pattern.control low final.before back.to (final.is ∙ sym back.is) in
          let T : ℕ → Type 0 = λ n. is_final_of items n ≡ true in
          let read : IsRead items d.stack = (back.to, back.reads, subst T same is) in
          and_from (nat_eq d.control pattern.control) (items_match items d.stack) (eq-eqb d.control pattern.control here) ((members_read items d.stack).1 read),
      λ member.
          let parts = and_parts (nat_eq d.control pattern.control) (items_match items d.stack) member in
          let here : d.control ≡ pattern.control = eqb-true d.control pattern.control parts.0 in
          let read : IsRead items d.stack = (members_read items d.stack).0 parts.1 in
          let i = read.0 in
          let R : ℕ → Type 0 = λ n. Reads edges n d.stack (f i) in
          (f i, subst R (sym here) (reads_to controls pattern.control low (edges_of items) 0 d.stack i read.1), in_map f i (finals_of_items items) (is_final items i read.2)),
    )
