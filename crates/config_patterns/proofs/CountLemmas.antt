-- How many edges and final states an item more brings.
use Rattle.std.proofs.Common.{◌≡◌, ℕ, suc, ◌+◌, ◌*◌, ◌≤◌, Bool, true, false, List, [], ◌∷◌, ◌++◌, length, refl, sym, ap, ap₂, ◌∙◌, length-append, arith}
use Rattle.std.specs.Prelude.{if◌then◌else◌, ◌&&◌}
use Rattle.std.specs.List.{list_all}
use Rattle.std.proofs.lemmas.List.{length-map}
use Rattle.std.proofs.lemmas.List.Folds.{list_all-append}
use Rattle.config_patterns.specs.declared.item.Item.{Item}
use Rattle.config_patterns.specs.declared.edge.Edge.{Edge}
use Rattle.config_patterns.specs.Edges.{edges_into, edges_on, edges_back, edges_from, edges_of, is_starred, finals_of}

abbrev one_if : Bool → ℕ
one_if b = if b then 1 else 0

-- how many items have only starred ones above them
abbrev ends_of : List Item → ℕ
ends_of [] = 0
ends_of (x ∷ xs) = one_if (list_all is_starred xs) + ends_of xs

finals_split : (xs : List Item) → finals_of xs ≡ one_if (list_all is_starred xs) + ends_of xs
finals_split [] = refl
finals_split (x ∷ xs) = elim (list_all is_starred (x ∷ xs)) as (λ b. (if b then suc (finals_of xs) else finals_of xs) ≡ one_if b + ends_of (x ∷ xs)) [
  | true ↦ let e = finals_split xs in omega arith
  | false ↦ let e = finals_split xs in omega arith
]

count_into : (from to : ℕ) (set : List ℕ) → length (edges_into from to set) ≡ length set
count_into from to set = length-map set (λ g. let e : Edge = record { from = from; symbol = g; to = to } in e)

and_true : (b : Bool) (n m : ℕ) → (if b && true then n else m) ≡ (if b then n else m)
and_true true n m = refl
and_true false n m = refl

module _ (x : Item) where
  count_on : (from to : ℕ) (xs : List Item) → length (edges_on from to (xs ++ x ∷ [])) ≡ length (edges_on from to xs) + length x.set * one_if (list_all is_starred xs)
  count_on from to [] =
      let skip : length (if x.star then edges_on from (suc to) [] else []) ≡ 0 = elim x.star as (λ b. length (if b then edges_on from (suc to) [] else []) ≡ 0) [ true ↦ refl | false ↦ refl ] in
      length-append (edges_into from to x.set) (if x.star then edges_on from (suc to) [] else []) ∙ ap₂ ◌+◌ (count_into from to x.set) skip ∙ (let n = length x.set in omega arith)
  count_on from to (y ∷ ys) =
      let on = count_on from (suc to) ys in
      let into = edges_into from to y.set in
      length-append into (if y.star then edges_on from (suc to) (ys ++ x ∷ []) else [])
      ∙ elim y.star as (λ b. length into + length (if b then edges_on from (suc to) (ys ++ x ∷ []) else [])
      ≡ (length into + length (if b then edges_on from (suc to) ys else [])) + length x.set * one_if (b && list_all is_starred ys)) [
        | true ↦ ap (λ n. length into + n) on ∙ omega arith
        | false ↦ omega arith
      ]
      ∙ ap (λ n. n + length x.set * one_if (y.star && list_all is_starred ys)) (sym (length-append into (if y.star then edges_on from (suc to) ys else [])))

  count_back : (at : ℕ) → length (edges_back at x) ≡ length x.set * one_if x.star
  count_back at = elim x.star as (λ b. length (if b then edges_into at at x.set else []) ≡ length x.set * one_if b) [
    | true ↦ count_into at at x.set ∙ omega arith
    | false ↦ omega arith
  ]

  count_from : (at : ℕ) (xs : List Item) → length (edges_from at (xs ++ x ∷ [])) ≡ length (edges_from at xs) + length x.set * (ends_of xs + one_if x.star)
  count_from at [] =
      length-append (edges_back at x ++ []) [] ∙ ap (λ n. n + 0) (length-append (edges_back at x) [] ∙ ap (λ n. n + 0) (count_back at)) ∙ (let n = length x.set * one_if x.star in omega arith)
  count_from at (y ∷ ys) =
      let own = edges_back at y in
      let before = length-append own (edges_on at (suc at) ys) in
      let after = length-append own (edges_on at (suc at) (ys ++ x ∷ [])) in
      let all_before = length-append (own ++ edges_on at (suc at) ys) (edges_from (suc at) ys) in
      let all_after = length-append (own ++ edges_on at (suc at) (ys ++ x ∷ [])) (edges_from (suc at) (ys ++ x ∷ [])) in
      let on = count_on at (suc at) ys in
      let rest = count_from (suc at) ys in
      omega arith

  -- the edges with an item more: its symbols from each final state, and once more where it is starred
  pub count_push : (xs : List Item) → length (edges_of (xs ++ x ∷ [])) ≡ length (edges_of xs) + length x.set * (finals_of xs + one_if x.star)
  count_push xs =
      let before = length-append (edges_on 0 1 xs) (edges_from 1 xs) in
      let after = length-append (edges_on 0 1 (xs ++ x ∷ [])) (edges_from 1 (xs ++ x ∷ [])) in
      let on = count_on 0 1 xs in
      let from = count_from 1 xs in
      let finals = finals_split xs in
      let product = ap (λ n. length x.set * (n + one_if x.star)) finals in
      omega arith

  -- the final states with an item more
  pub finals_push : (xs : List Item) → finals_of (xs ++ x ∷ []) ≡ (if x.star then suc (finals_of xs) else 1)
  finals_push [] = and_true x.star (suc 1) 1
  finals_push (y ∷ ys) =
      let all = list_all-append is_starred (y ∷ ys) (x ∷ []) in
      ap₂ (λ b n. if b then suc n else n) all (finals_push ys)
      ∙ elim x.star as (λ s. (if list_all is_starred (y ∷ ys) && (s && true) then suc (if s then suc (finals_of ys) else 1) else (if s then suc (finals_of ys) else 1))
      ≡ (if s then suc (if list_all is_starred (y ∷ ys) then suc (finals_of ys) else finals_of ys) else 1)) [
        | true ↦ elim (list_all is_starred (y ∷ ys)) as (λ b. (if b && true then suc (suc (finals_of ys)) else suc (finals_of ys)) ≡ suc (if b then suc (finals_of ys) else finals_of ys)) [ true ↦ refl | false ↦ refl ]
        | false ↦ elim (list_all is_starred (y ∷ ys)) as (λ b. (if b && false then suc 1 else 1) ≡ 1) [ true ↦ refl | false ↦ refl ]
      ]

pub finals_few : (xs : List Item) → finals_of xs ≤ suc (length xs)
finals_few [] = omega arith
finals_few (x ∷ xs) = elim (list_all is_starred (x ∷ xs)) as (λ b. (if b then suc (finals_of xs) else finals_of xs) ≤ suc (suc (length xs))) [
  | true ↦ let e = finals_few xs in omega arith
  | false ↦ let e = finals_few xs in omega arith
]
