-- Points of symbols among lines whose numbers rise.
use Rattle.std.proofs.Common.{◌≡◌, ℕ, zero, suc, ◌+◌, ◌<◌, ◌≤◌, Bool, true, false, cond, List, [], ◌∷◌, length, map, filter, get_or, refl, sym, ap, ◌∙◌, subst, arith, nat_lt, ◌⊎◌, inl, inr}
use Rattle.std.specs.Prelude.{Option, None, Some, slice_get, unwrap_or}
use Rattle.std.specs.Prelude.{Err}
use Rattle.std.specs.Ordering.{nat_cmp}
use Rattle.std.specs.List.Sorted.{IsBinarySearchResult}
use Rattle.std.proofs.lemmas.List.Sorted.{searched}
use Rattle.std.proofs.lemmas.Bool.{ltb-true, lt-ltb, and_parts, and_from, cases_lt}
use Rattle.std.proofs.lemmas.List.{length-map}
use Rattle.std.proofs.lemmas.Option.{get_or_from_slice_get}
use Rattle.boolean_programs.specs.declared.point.Point.{Point}
use Rattle.boolean_programs.specs.Programs.{Program}
use Rattle.boolean_programs.specs.Structure.{rises}
use Rattle.boolean_machine.specs.Machine.{at_line}
use Rattle.boolean_machine.proofs.CallerLemmas.{get_front, get_joined, get_map, get_mapped}
use Rattle.lowering_laws.specs.Lowering.{failure_at, symbol, symbol_of}
use Rattle.boolean_lowering.specs.private.Tables.{points_in}
use Rattle.boolean_lowering.proofs.ListLemmas.{get_behind, get_below}

-- ---- numbers that rise

above : (low : ℕ) (ns : List ℕ) → rises low ns ≡ true → (j : ℕ) → j < length ns → low < get_or ns j 0
above low [] r j h = absurd (omega arith)
above low (n ∷ ns) r zero h = let parts = and_parts (nat_lt low n) (rises n ns) r in ltb-true low n parts.0
above low (n ∷ ns) r (suc j) h =
    let parts = and_parts (nat_lt low n) (rises n ns) r in
    let first : low < n = ltb-true low n parts.0 in
    let later : n < get_or ns j 0 = above n ns parts.1 j (omega arith) in
    omega arith

pub in_order : (low : ℕ) (ns : List ℕ) → rises low ns ≡ true → (i j : ℕ) → i ≤ j → j < length ns → get_or ns i 0 ≤ get_or ns j 0
in_order low [] r i j le h = absurd (omega arith)
in_order low (n ∷ ns) r zero zero le h = omega arith
in_order low (n ∷ ns) r zero (suc j) le h =
    let parts = and_parts (nat_lt low n) (rises n ns) r in
    let later : n < get_or ns j 0 = above n ns parts.1 j (omega arith) in
    omega arith
in_order low (n ∷ ns) r (suc i) zero le h = absurd (omega arith)
in_order low (n ∷ ns) r (suc i) (suc j) le h = let parts = and_parts (nat_lt low n) (rises n ns) r in in_order n ns parts.1 i j (omega arith) (omega arith)

-- a number that a search did not find is none of them
pub absent : (ns : List ℕ) (n i : ℕ) → rises 0 ns ≡ true → IsBinarySearchResult (λ y. nat_cmp y n) ns (Err i) → (k : ℕ) → slice_get ns k ≡ Some n → ⊥
absent ns n i r found k e =
    let here : get_or ns k 0 ≡ n = get_or_from_slice_get ns k n 0 e in
    let below = get_below ns k n e in
    let at = searched ns n (Err i) found (in_order 0 ns r) in
    by_side at.1 at.2 here below (cases_lt k i)
  where
    by_side : ((k : ℕ) → k < i → get_or ns k 0 < n) → ((k : ℕ) → i ≤ k → k < length ns → n < get_or ns k 0) → get_or ns k 0 ≡ n → k < length ns → ((k < i) ⊎ (i ≤ k)) → ⊥
    by_side less more here below (inl h) = let small = less k h in absurd (omega arith)
    by_side less more here below (inr h) = let large = more k h below in absurd (omega arith)

rises_from : (low low' : ℕ) (ns : List ℕ) → low ≤ low' → rises low' ns ≡ true → rises low ns ≡ true
rises_from low low' [] h r = refl
rises_from low low' (n ∷ ns) h r =
    let parts = and_parts (nat_lt low' n) (rises n ns) r in
    let small : low' < n = ltb-true low' n parts.0 in
    and_from (nat_lt low n) (rises n ns) (lt-ltb low n (omega arith)) parts.1

-- those that pass a test rise too
pub rises_filtered : {X : Type 0} (f : X → ℕ) (test : X → Bool) (low : ℕ) (xs : List X) → rises low (map f xs) ≡ true → rises low (map f (filter test xs)) ≡ true
rises_filtered {X} f test low [] r = refl
rises_filtered {X} f test low (x ∷ xs) r =
    let parts = and_parts (nat_lt low (f x)) (rises (f x) (map f xs)) r in
    by_test (test x) parts.0 (rises_filtered f test (f x) xs parts.1)
  where
    by_test : (b : Bool) → nat_lt low (f x) ≡ true → rises (f x) (map f (filter test xs)) ≡ true → rises low (map f (cond b (x ∷ filter test xs) (filter test xs))) ≡ true
    by_test true first later = and_from (nat_lt low (f x)) (rises (f x) (map f (filter test xs))) first later
    by_test false first later = let small : low < f x = ltb-true low (f x) first in rises_from low (f x) (map f (filter test xs)) (omega arith) later

-- ---- points

pub point_of_line : (lines asserts : List ℕ) (point : Point) (k : ℕ) → point.failed ≡ false → slice_get lines k ≡ Some point.line → slice_get (points_in lines asserts) k ≡ Some point
point_of_line lines asserts point k plain e =
    get_front (map at_line lines) (map failure_at asserts) k (at_line point.line) (get_map at_line lines k point.line e)
    ∙ ap (λ (b : Bool). Some (record point { failed = b })) (sym plain)

pub point_of_failure : (lines asserts : List ℕ) (point : Point) (k g : ℕ) → point.failed ≡ true → slice_get asserts k ≡ Some point.line → g ≡ length lines + k → slice_get (points_in lines asserts) g ≡ Some point
point_of_failure lines asserts point k g fails e at =
    let long : length (map at_line lines) ≡ length lines = length-map lines at_line in
    subst (λ m. slice_get (points_in lines asserts) m ≡ Some (failure_at point.line)) (let f : length (map at_line lines) + k ≡ g = omega arith in f)
    (get_behind (map at_line lines) (map failure_at asserts) k (failure_at point.line) (get_map failure_at asserts k point.line e))
    ∙ ap (λ (b : Bool). Some (record point { failed = b })) (sym fails)

pub no_point_of_line : (lines asserts : List ℕ) (point : Point) → point.failed ≡ false → ((k : ℕ) → slice_get lines k ≡ Some point.line → ⊥) → (g : ℕ) → slice_get (points_in lines asserts) g ≡ Some point → ⊥
no_point_of_line lines asserts point plain none g e = by_part (get_joined (map at_line lines) (map failure_at asserts) g point e)
  where
    by_part : ((slice_get (map at_line lines) g ≡ Some point) ⊎ ((j : ℕ) × (slice_get (map failure_at asserts) j ≡ Some point))) → ⊥
    by_part (inl h) = let at = get_mapped at_line lines g point h in none g (at.1 ∙ ap (λ (q : Point). Some q.line) at.2)
    by_part (inr h) = let at = get_mapped failure_at asserts h.0 point h.1 in let f : true ≡ false = ap (λ (q : Point). q.failed) at.2 ∙ plain in cc

pub no_point_of_failure : (lines asserts : List ℕ) (point : Point) → point.failed ≡ true → ((k : ℕ) → slice_get asserts k ≡ Some point.line → ⊥) → (g : ℕ) → slice_get (points_in lines asserts) g ≡ Some point → ⊥
no_point_of_failure lines asserts point fails none g e = by_part (get_joined (map at_line lines) (map failure_at asserts) g point e)
  where
    by_part : ((slice_get (map at_line lines) g ≡ Some point) ⊎ ((j : ℕ) × (slice_get (map failure_at asserts) j ≡ Some point))) → ⊥
    by_part (inl h) = let at = get_mapped at_line lines g point h in let f : false ≡ true = ap (λ (q : Point). q.failed) at.2 ∙ fails in cc
    by_part (inr h) = let at = get_mapped failure_at asserts h.0 point h.1 in none h.0 (at.1 ∙ ap (λ (q : Point). Some q.line) at.2)

-- ---- the symbol of a point of the program

pub symbol_is : (p : Program) (point : Point) (g : ℕ) → symbol_of p point ≡ Some g → g ≡ symbol p point
symbol_is p point g e = sym (ap (λ o. unwrap_or o 0) e)

pub no_symbol : (p : Program) (point : Point) → ((g : ℕ) → symbol_of p point ≡ Some g → ⊥) → 0 ≡ symbol p point
no_symbol p point none = by_symbol (symbol_of p point) none
  where
    by_symbol : (o : Option ℕ) → ((g : ℕ) → o ≡ Some g → ⊥) → 0 ≡ unwrap_or o 0
    by_symbol None none = refl
    by_symbol (Some g) none = absurd (none g refl)
