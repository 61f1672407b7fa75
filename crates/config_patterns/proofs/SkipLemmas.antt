-- Which edges there are.
use Rattle.std.proofs.Common.{◌≡◌, ◌⊎◌, inl, inr, ℕ, zero, suc, ◌+◌, Bool, true, false, List, [], ◌∷◌, ◌++◌, drop, refl, sym, ap, ap₂, ◌∙◌, subst, arith}
use Rattle.std.specs.Prelude.{◌↔◌, ◌||◌, ◌&&◌, nat_eq, if◌then◌else◌}
use Rattle.std.proofs.lemmas.Bool.{and_parts, eq-eqb, eqb-true, or_left, or_right, false≢true}
use Rattle.config_patterns.specs.declared.item.Item.{Item}
use Rattle.config_patterns.specs.declared.edge.Edge.{Edge}
use Rattle.config_patterns.specs.Membership.{has_symbol}
use Rattle.config_patterns.specs.Edges.{edges_into, edges_on, edges_back, edges_from, edges_of, leads_to, stays_on}
use Rattle.wpds_base.specs.Lists.{IsIn}
use Rattle.config_patterns.specs.Paths.{IsEdge}

abbrev edge : ℕ → ℕ → ℕ → Edge
edge from g to = record { from = from; symbol = g; to = to }

in_left : (e : Edge) (ds es : List Edge) → IsIn e ds → IsIn e (ds ++ es)
in_left e [] es h = elim h [ ]
in_left e (d ∷ ds) es (inl is) = inl is
in_left e (d ∷ ds) es (inr h) = inr (in_left e ds es h)

in_right : (e : Edge) (ds es : List Edge) → IsIn e es → IsIn e (ds ++ es)
in_right e [] es h = h
in_right e (d ∷ ds) es h = inr (in_right e ds es h)

pub in_either : (e : Edge) (ds es : List Edge) → IsIn e (ds ++ es) → IsIn e ds ⊎ IsIn e es
in_either e [] es h = inr h
in_either e (d ∷ ds) es (inl is) = inl (inl is)
in_either e (d ∷ ds) es (inr h) = elim (in_either e ds es h) [ inl a ↦ inl (inr a) | inr b ↦ inr b ]

both : (a b : Bool) → a ≡ true → b ≡ true → (a && b) ≡ true
both true b h k = k
both false b h k = absurd (false≢true h)

-- An edge on a symbol of a set.
pub record IsInto (from to : ℕ) (set : List ℕ) (e : Edge) : Type 0 where
  pub source : e.from ≡ from
  pub target : e.to ≡ to
  pub symbol : has_symbol e.symbol set ≡ true

pub is_into : (from to : ℕ) (set : List ℕ) (e : Edge) → IsIn e (edges_into from to set) → IsInto from to set e
is_into from to [] e h = elim h [ ]
is_into from to (g ∷ set) e (inl is) = record {
  source = sym (ap (λ (d : Edge). d.from) is);
  target = sym (ap (λ (d : Edge). d.to) is);
  symbol = or_left (nat_eq g e.symbol) (has_symbol e.symbol set) (eq-eqb g e.symbol (ap (λ (d : Edge). d.symbol) is));
}
is_into from to (g ∷ set) e (inr h) =
    let rest = is_into from to set e h in
    record { source = rest.source; target = rest.target; symbol = or_right (nat_eq g e.symbol) (has_symbol e.symbol set) rest.symbol }

has_into : (from to : ℕ) (set : List ℕ) (g : ℕ) → has_symbol g set ≡ true → IsIn (edge from g to) (edges_into from to set)
has_into from to [] g h = absurd (false≢true h)
has_into from to (k ∷ set) g h = elim (nat_eq k g) as (λ b. nat_eq k g ≡ b → (b || has_symbol g set) ≡ true → IsIn (edge from g to) (edges_into from to (k ∷ set))) [
  | true ↦ λ is _. inl (ap (λ n. edge from n to) (eqb-true k g is))
  | false ↦ λ _ rest. inr (has_into from to set g rest)
] refl h

-- An edge to an item above.
record IsOn (from to : ℕ) (xs : List Item) (e : Edge) : Type 0 where
  above : ℕ
  source : e.from ≡ from
  target : e.to ≡ to + above
  leads : leads_to xs above e.symbol ≡ true

is_on : (from to : ℕ) (xs : List Item) (e : Edge) → IsIn e (edges_on from to xs) → IsOn from to xs e
is_on from to [] e h = elim h [ ]
is_on from to (x ∷ xs) e h = elim (in_either e (edges_into from to x.set) (if x.star then edges_on from (suc to) xs else []) h) [
  | inl a ↦ let i = is_into from to x.set e a in record { above = 0; source = i.source; target = i.target ∙ omega arith; leads = i.symbol }
  | inr b ↦ elim x.star as (λ s. x.star ≡ s → IsIn e (if s then edges_on from (suc to) xs else []) → IsOn from to (x ∷ xs) e) [
    | true ↦ λ star there. let r = is_on from (suc to) xs e there in
        record { above = suc r.above; source = r.source; target = r.target ∙ omega arith; leads = both x.star (leads_to xs r.above e.symbol) star r.leads }
    | false ↦ λ _ none. elim none [ ]
  ] refl b
]

has_on : (from to : ℕ) (xs : List Item) (k g : ℕ) → leads_to xs k g ≡ true → IsIn (edge from g (to + k)) (edges_on from to xs)
has_on from to [] k g h = absurd (false≢true h)
has_on from to (x ∷ xs) zero g h =
    let P : ℕ → Type 0 = λ n. IsIn (edge from g n) (edges_on from to (x ∷ xs)) in
    let at : to ≡ to + 0 = omega arith in
    subst P at (in_left (edge from g to) (edges_into from to x.set) (if x.star then edges_on from (suc to) xs else []) (has_into from to x.set g h))
has_on from to (x ∷ xs) (suc k) g h =
    let P : ℕ → Type 0 = λ n. IsIn (edge from g n) (edges_on from to (x ∷ xs)) in
    let at : suc to + k ≡ to + suc k = omega arith in
    let Q : Bool → Type 0 = λ b. IsIn (edge from g (suc to + k)) (if b then edges_on from (suc to) xs else []) in
    let there : Q x.star = subst Q (sym (and_parts x.star _ h).0) (has_on from (suc to) xs k g (and_parts x.star _ h).1) in
    subst P at (in_right (edge from g (suc to + k)) (edges_into from to x.set) (if x.star then edges_on from (suc to) xs else []) there)

-- An edge from an item: to itself, or to one above.
record IsFrom (at : ℕ) (xs : List Item) (e : Edge) : Type 0 where
  place : ℕ
  source : e.from ≡ at + place
  goes : ((e.to ≡ at + place) × (stays_on xs place e.symbol ≡ true)) ⊎ IsOn (at + place) (suc (at + place)) (drop (suc place) xs) e

is_from : (at : ℕ) (xs : List Item) (e : Edge) → IsIn e (edges_from at xs) → IsFrom at xs e
is_from at [] e h = elim h [ ]
is_from at (x ∷ xs) e h =
    let zero_more : at ≡ at + 0 = omega arith in
    elim (in_either e (edges_back at x ++ edges_on at (suc at) xs) (edges_from (suc at) xs) h) [
      | inl own ↦ elim (in_either e (edges_back at x) (edges_on at (suc at) xs) own) [
        | inl back ↦ elim x.star as (λ s. x.star ≡ s → IsIn e (if s then edges_into at at x.set else []) → IsFrom at (x ∷ xs) e) [
          | true ↦ λ star there. let i = is_into at at x.set e there in
              record { place = 0; source = i.source ∙ zero_more; goes = inl (i.target ∙ zero_more, both x.star (has_symbol e.symbol x.set) star i.symbol) }
          | false ↦ λ _ none. elim none [ ]
        ] refl back
        | inr on ↦ let P : ℕ → Type 0 = λ n. IsOn n (suc n) xs e in let i = is_on at (suc at) xs e on in
            record { place = 0; source = i.source ∙ zero_more; goes = inr (subst P zero_more i) }
      ]
      | inr rest ↦ let r = is_from (suc at) xs e rest in
          let on : suc at + r.place ≡ at + suc r.place = omega arith in
          let P : ℕ → Type 0 = λ n. IsOn n (suc n) (drop (suc r.place) xs) e in
          record {
            place = suc r.place;
            source = r.source ∙ on;
            goes = elim r.goes [ inl back ↦ inl (back.0 ∙ on, back.1) | inr i ↦ inr (subst P on i) ];
          }
    ]

has_back : (at : ℕ) (xs : List Item) (k g : ℕ) → stays_on xs k g ≡ true → IsIn (edge (at + k) g (at + k)) (edges_from at xs)
has_back at [] k g h = absurd (false≢true h)
has_back at (x ∷ xs) zero g h =
    let P : ℕ → Type 0 = λ n. IsIn (edge n g n) (edges_from at (x ∷ xs)) in
    let here : at ≡ at + 0 = omega arith in
    let Q : Bool → Type 0 = λ b. IsIn (edge at g at) (if b then edges_into at at x.set else []) in
    let back : Q x.star = subst Q (sym (and_parts x.star _ h).0) (has_into at at x.set g (and_parts x.star _ h).1) in
    subst P here (in_left (edge at g at) (edges_back at x ++ edges_on at (suc at) xs) (edges_from (suc at) xs) (in_left (edge at g at) (edges_back at x) (edges_on at (suc at) xs) back))
has_back at (x ∷ xs) (suc k) g h =
    let P : ℕ → Type 0 = λ n. IsIn (edge n g n) (edges_from at (x ∷ xs)) in
    let on : suc at + k ≡ at + suc k = omega arith in
    subst P on (in_right (edge (suc at + k) g (suc at + k)) (edges_back at x ++ edges_on at (suc at) xs) (edges_from (suc at) xs) (has_back (suc at) xs k g h))

has_above : (at : ℕ) (xs : List Item) (j k g : ℕ) → leads_to (drop (suc j) xs) k g ≡ true → IsIn (edge (at + j) g (suc (at + j) + k)) (edges_from at xs)
has_above at [] j k g h = absurd (false≢true h)
has_above at (x ∷ xs) zero k g h =
    let P : ℕ → Type 0 = λ n. IsIn (edge n g (suc n + k)) (edges_from at (x ∷ xs)) in
    let here : at ≡ at + 0 = omega arith in
    let e = edge at g (suc at + k) in
    subst P here (in_left e (edges_back at x ++ edges_on at (suc at) xs) (edges_from (suc at) xs) (in_right e (edges_back at x) (edges_on at (suc at) xs) (has_on at (suc at) xs k g h)))
has_above at (x ∷ xs) (suc j) k g h =
    let P : ℕ → Type 0 = λ n. IsIn (edge n g (suc n + k)) (edges_from at (x ∷ xs)) in
    let on : suc at + j ≡ at + suc j = omega arith in
    subst P on (in_right (edge (suc at + j) g (suc (suc at + j) + k)) (edges_back at x ++ edges_on at (suc at) xs) (edges_from (suc at) xs) (has_above (suc at) xs j k g h))

is_edge : (items : List Item) (e : Edge) → IsIn e (edges_of items) → IsEdge items e
is_edge items e h = elim (in_either e (edges_on 0 1 items) (edges_from 1 items) h) [
  | inl on ↦ let i = is_on 0 1 items e on in
      let P : ℕ → Type 0 = λ n. leads_to (drop n items) i.above e.symbol ≡ true in
      let from = i.source in
      let to = i.target in
      inl (i.above, omega arith, subst P (sym i.source) i.leads)
  | inr there ↦ let r = is_from 1 items e there in
      let source : e.from ≡ suc r.place = r.source ∙ omega arith in
      elim r.goes [
        | inl back ↦ inr (r.place, source, back.0 ∙ omega arith, back.1)
        | inr i ↦ let P : ℕ → Type 0 = λ n. leads_to (drop n items) i.above e.symbol ≡ true in
            let from = r.source in
            let to = i.target in
            inl (i.above, omega arith, subst P (sym source) i.leads)
      ]
]

same_edge : (e : Edge) (from to : ℕ) → e.from ≡ from → e.to ≡ to → edge from e.symbol to ≡ e
same_edge e from to source target = ap₂ (λ n m. edge n e.symbol m) (sym source) (sym target)

above_edge : (items : List Item) (from k g : ℕ) → leads_to (drop from items) k g ≡ true → IsIn (edge from g (suc (from + k))) (edges_of items)
above_edge items zero k g h =
    let P : ℕ → Type 0 = λ n. IsIn (edge 0 g n) (edges_of items) in
    let at : 1 + k ≡ suc (0 + k) = omega arith in
    subst P at (in_left (edge 0 g (1 + k)) (edges_on 0 1 items) (edges_from 1 items) (has_on 0 1 items k g h))
above_edge items (suc j) k g h =
    let P : ℕ → ℕ → Type 0 = λ n m. IsIn (edge n g m) (edges_of items) in
    let from : 1 + j ≡ suc j = omega arith in
    let to : suc (1 + j) + k ≡ suc (suc j + k) = omega arith in
    let Q : ℕ → Type 0 = λ n. IsIn (edge n g (suc (1 + j) + k)) (edges_of items) in
    let R : ℕ → Type 0 = λ m. IsIn (edge (suc j) g m) (edges_of items) in
    subst R to (subst Q from (in_right (edge (1 + j) g (suc (1 + j) + k)) (edges_on 0 1 items) (edges_from 1 items) (has_above 1 items j k g h)))

back_edge : (items : List Item) (k g : ℕ) → stays_on items k g ≡ true → IsIn (edge (suc k) g (suc k)) (edges_of items)
back_edge items k g h =
    let P : ℕ → Type 0 = λ n. IsIn (edge n g n) (edges_of items) in
    let at : 1 + k ≡ suc k = omega arith in
    subst P at (in_right (edge (1 + k) g (1 + k)) (edges_on 0 1 items) (edges_from 1 items) (has_back 1 items k g h))

has_edge : (items : List Item) (e : Edge) → IsEdge items e → IsIn e (edges_of items)
has_edge items e (inl h) =
    let P : Edge → Type 0 = λ d. IsIn d (edges_of items) in
    subst P (same_edge e e.from (suc (e.from + h.0)) refl h.1) (above_edge items e.from h.0 e.symbol h.2)
has_edge items e (inr h) =
    let P : Edge → Type 0 = λ d. IsIn d (edges_of items) in
    subst P (same_edge e (suc h.0) (suc h.0) h.1 h.2) (back_edge items h.0 e.symbol h.3)

pub edges_are : (items : List Item) (e : Edge) → IsIn e (edges_of items) ↔ IsEdge items e
edges_are items e = (is_edge items e, has_edge items e)
