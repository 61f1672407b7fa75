-- Each edge stands once.
use Rattle.std.proofs.Common.{◌≡◌, ℕ, suc, ◌≤◌, Bool, true, false, List, [], ◌∷◌, ◌++◌, inl, inr, refl, ap, arith}
use Rattle.std.specs.Prelude.{IsTrue, not, if◌then◌else◌}
use Rattle.std.specs.List.{All, AllByRecursion}
use Rattle.std.proofs.lemmas.Bool.{and_parts}
use Rattle.std.proofs.lemmas.List.Elements.{recursion_from_All}
use Rattle.config_patterns.specs.declared.item.Item.{Item}
use Rattle.config_patterns.specs.declared.edge.Edge.{Edge}
use Rattle.config_patterns.specs.Membership.{has_symbol}
use Rattle.config_patterns.specs.Validity.{is_set}
use Rattle.config_patterns.specs.Edges.{edges_into, edges_on, edges_back, edges_from, edges_of}
use Rattle.wpds_base.specs.Lists.{IsIn, IsOnce}
use Rattle.config_patterns.proofs.SkipLemmas.{in_either, is_into}

abbrev HasSet : Item → Type 0
HasSet x = IsTrue (is_set x.set)

once_append : (ds es : List Edge) → IsOnce ds → IsOnce es → ((e : Edge) → IsIn e ds → IsIn e es → ⊥) → IsOnce (ds ++ es)
once_append [] es once once' apart = once'
once_append (d ∷ ds) es once once' apart = (
  λ h. elim (in_either d ds es h) [ inl a ↦ once.0 a | inr b ↦ apart d (inl refl) b ],
  once_append ds es once.1 once' (λ e a b. apart e (inr a) b),
)

once_into : (from to : ℕ) (set : List ℕ) → is_set set ≡ true → IsOnce (edges_into from to set)
once_into from to [] distinct = tt
once_into from to (g ∷ set) distinct =
    let parts = and_parts (not (has_symbol g set)) (is_set set) distinct in (
      λ h. let has = (is_into from to set (record { from = from; symbol = g; to = to }) h).symbol in
          let lacks : not (has_symbol g set) ≡ false = ap not has in
          cc (lacks, parts.0),
      once_into from to set parts.1,
    )

-- Edges from one state, to that of a number or above it.
record AreOn (from to : ℕ) (e : Edge) : Type 0 where
  source : e.from ≡ from
  target : to ≤ e.to

on_more : (from to : ℕ) (b : Bool) (xs : List Item) (e : Edge) → ((to : ℕ) → IsIn e (edges_on from to xs) → AreOn from to e) → IsIn e (if b then edges_on from (suc to) xs else []) → AreOn from (suc to) e
on_more from to true xs e rest h = rest (suc to) h
on_more from to false xs e rest h = absurd h

are_on : (from to : ℕ) (xs : List Item) (e : Edge) → IsIn e (edges_on from to xs) → AreOn from to e
are_on from to [] e h = absurd h
are_on from to (x ∷ xs) e h = elim (in_either e (edges_into from to x.set) _ h) [
  | inl here ↦ let i = is_into from to x.set e here in record { source = i.source; target = omega (arith, i.target) }
  | inr later ↦ let a = on_more from to x.star xs e (λ k g. are_on from k xs e g) later in record { source = a.source; target = omega (arith, a.target) }
]

once_if : (from to : ℕ) (b : Bool) (xs : List Item) → IsOnce (edges_on from (suc to) xs) → IsOnce (if b then edges_on from (suc to) xs else [])
once_if from to true xs once = once
once_if from to false xs once = tt

once_on : (from to : ℕ) (xs : List Item) → AllByRecursion HasSet xs → IsOnce (edges_on from to xs)
once_on from to [] sets = tt
once_on from to (x ∷ xs) sets =
    once_append (edges_into from to x.set) _ (once_into from to x.set sets.0) (once_if from to x.star xs (once_on from (suc to) xs sets.1))
    (λ e here later.
    let i = (is_into from to x.set e here).target in
    let a = (on_more from to x.star xs e (λ k g. are_on from k xs e g) later).target in
    absurd (omega arith))

-- Edges from a starred item to itself.
record IsBack (at : ℕ) (e : Edge) : Type 0 where
  source : e.from ≡ at
  target : e.to ≡ at

back_by : (at : ℕ) (set : List ℕ) (b : Bool) (e : Edge) → IsIn e (if b then edges_into at at set else []) → IsBack at e
back_by at set true e h = let i = is_into at at set e h in record { source = i.source; target = i.target }
back_by at set false e h = absurd h

once_back : (at : ℕ) (set : List ℕ) (b : Bool) → is_set set ≡ true → IsOnce (if b then edges_into at at set else [])
once_back at set true distinct = once_into at at set distinct
once_back at set false distinct = tt

from_above : (at : ℕ) (xs : List Item) (e : Edge) → IsIn e (edges_from at xs) → at ≤ e.from
from_above at [] e h = absurd h
from_above at (x ∷ xs) e h = elim (in_either e (edges_back at x ++ edges_on at (suc at) xs) (edges_from (suc at) xs) h) [
  | inl here ↦ elim (in_either e (edges_back at x) (edges_on at (suc at) xs) here) [
    | inl back ↦ let b = (back_by at x.set x.star e back).source in omega arith
    | inr on ↦ let a = (are_on at (suc at) xs e on).source in omega arith
  ]
  | inr later ↦ let a = from_above (suc at) xs e later in omega arith
]

source_here : (at : ℕ) (x : Item) (xs : List Item) (e : Edge) → IsIn e (edges_back at x ++ edges_on at (suc at) xs) → e.from ≡ at
source_here at x xs e h = elim (in_either e (edges_back at x) (edges_on at (suc at) xs) h) [
  | inl back ↦ (back_by at x.set x.star e back).source
  | inr on ↦ (are_on at (suc at) xs e on).source
]

once_from : (at : ℕ) (xs : List Item) → AllByRecursion HasSet xs → IsOnce (edges_from at xs)
once_from at [] sets = tt
once_from at (x ∷ xs) sets =
    once_append (edges_back at x ++ edges_on at (suc at) xs) (edges_from (suc at) xs)
    (once_append (edges_back at x) (edges_on at (suc at) xs) (once_back at x.set x.star sets.0) (once_on at (suc at) xs sets.1)
    (λ e back on. let b = (back_by at x.set x.star e back).target in let a = (are_on at (suc at) xs e on).target in absurd (omega arith)))
    (once_from (suc at) xs sets.1)
    (λ e here later. let h = source_here at x xs e here in let a = from_above (suc at) xs e later in absurd (omega arith))

-- each edge of a pattern stands once
pub edges_once : (items : List Item) → All HasSet items → IsOnce (edges_of items)
edges_once items sets =
    let each = recursion_from_All HasSet items sets in
    once_append (edges_on 0 1 items) (edges_from 1 items) (once_on 0 1 items each) (once_from 1 items each)
    (λ e first later. let a = (are_on 0 1 items e first).source in let b = from_above 1 items e later in absurd (omega arith))
