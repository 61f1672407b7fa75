-- Chains by buckets find what stands at three numbers.
use Rattle.std.proofs.Common.{◌≡◌, ℕ, zero, suc, ◌<◌, ◌≤◌, Bool, true, false, ◌&&◌, ◌⊎◌, List, [], ◌∷◌, ◌++◌, length, take, set, get_or, refl, sym, ap, ◌∙◌, subst, inl, inr, arith}
use Rattle.std.specs.Prelude.{Option, None, Some, nat_eq, cond, slice_get}
use Rattle.std.proofs.lemmas.Bool.{cases_Bool, cases_eq, cond-true, cond-false, eqb-true, eq-eqb, false_from_ne_true, and_parts}
use Rattle.std.proofs.lemmas.List.{get_or-set_same, get_or-set_other, length-set, length-take-le, take-append-le}
use Rattle.std.proofs.lemmas.Option.{same_Some}
use Rattle.diagram_store.specs.declared.triple_chains.Entry.{Entry}
use Rattle.diagram_store.specs.TripleTables.{same_key, or_else, value_there, newest_there}
use Rattle.diagram_store.specs.private.TripleChains.{bucket, bucket_of, later, newest, IsLinked}

-- ---- keys

abbrev Key : Type 0
Key = ℕ × ℕ × ℕ

key_parts : (x y z a b c : ℕ) → same_key (x, y, z) (a, b, c) ≡ true → (x ≡ a) × (y ≡ b) × (z ≡ c)
key_parts x y z a b c e =
    let p = and_parts (nat_eq x a) (nat_eq y b) (and_parts (nat_eq x a && nat_eq y b) (nat_eq z c) e).0 in
    (eqb-true x a p.0, eqb-true y b p.1, eqb-true z c (and_parts (nat_eq x a && nat_eq y b) (nat_eq z c) e).1)

one_bucket : (count : ℕ) (e : Entry) (k : Key) → same_key (e.x, e.y, e.z) k ≡ true → bucket_of count e ≡ bucket count k.0 k.1 k.2
one_bucket count e k same =
    let p = key_parts e.x e.y e.z k.0 k.1 k.2 same in
    ap (λ x. bucket count x e.y e.z) p.0 ∙ ap (λ y. bucket count k.0 y e.z) p.1 ∙ ap (λ z. bucket count k.0 k.1 z) p.2

or_none : (o : Option ℕ) → or_else o None ≡ o
or_none None = refl
or_none (Some v) = refl

or_assoc : (a b c : Option ℕ) → or_else (or_else a b) c ≡ or_else a (or_else b c)
or_assoc None b c = refl
or_assoc (Some v) b c = refl

-- the newest entry stands last
pub there_push : (es : List Entry) (e : Entry) (k : Key) → newest_there (es ++ e ∷ []) k ≡ or_else (value_there e k) (newest_there es k)
there_push [] e k = sym (or_none (value_there e k))
there_push (d ∷ es) e k = ap (λ o. or_else o (value_there d k)) (there_push es e k) ∙ or_assoc (value_there e k) (newest_there es k) (value_there d k)

value_same : (e : Entry) (k : Key) → same_key (e.x, e.y, e.z) k ≡ true → value_there e k ≡ Some e.value
value_same e k same = cond-true (same_key (e.x, e.y, e.z) k) (Some e.value) None same

value_other : (e : Entry) (k : Key) → same_key (e.x, e.y, e.z) k ≡ false → value_there e k ≡ None
value_other e k other = cond-false (same_key (e.x, e.y, e.z) k) (Some e.value) None other

-- as a choice by the key
pub there_chosen : (es : List Entry) (e : Entry) (k : Key) → newest_there (es ++ e ∷ []) k ≡ cond (same_key (e.x, e.y, e.z) k) (Some e.value) (newest_there es k)
there_chosen es e k = there_push es e k ∙ elim (cases_Bool (same_key (e.x, e.y, e.z) k)) [
  | inl same ↦ ap (λ o. or_else o (newest_there es k)) (value_same e k same) ∙ sym (cond-true (same_key (e.x, e.y, e.z) k) (Some e.value) (newest_there es k) same)
  | inr other ↦ ap (λ o. or_else o (newest_there es k)) (value_other e k other) ∙ sym (cond-false (same_key (e.x, e.y, e.z) k) (Some e.value) (newest_there es k) other)
]

-- ---- lists

pub take_step : {X : Type 0} → (xs : List X) (i : ℕ) (x : X) → slice_get xs i ≡ Some x → take (suc i) xs ≡ take i xs ++ x ∷ []
take_step [] i x e = cc
take_step (y ∷ ys) zero x e = ap (λ z. z ∷ []) (same_Some y x e)
take_step (y ∷ ys) (suc i) x e = ap (λ zs. y ∷ zs) (take_step ys i x e)

take_less : {X : Type 0} → (m i : ℕ) (xs : List X) → m ≤ i → take m (take i xs) ≡ take m xs
take_less zero i xs h = refl
take_less (suc m) zero xs h = absurd (omega arith)
take_less (suc m) (suc i) [] h = refl
take_less (suc m) (suc i) (x ∷ xs) h = ap (λ ys. x ∷ ys) (take_less m i xs (omega arith))

pub take_all : {X : Type 0} → (xs : List X) → take (length xs) xs ≡ xs
take_all [] = refl
take_all (x ∷ xs) = ap (λ ys. x ∷ ys) (take_all xs)

pub get_within : {X : Type 0} → (xs : List X) (i : ℕ) → i < length xs → (x : X) × (slice_get xs i ≡ Some x)
get_within [] i h = absurd (omega arith)
get_within (x ∷ xs) zero h = (x, refl)
get_within (x ∷ xs) (suc i) h = get_within xs i (omega arith)

get_below : {X : Type 0} → (xs : List X) (x y : X) (i : ℕ) → slice_get (xs ++ x ∷ []) i ≡ Some y → (slice_get xs i ≡ Some y) ⊎ ((i ≡ length xs) × (x ≡ y))
get_below [] x y zero e = inr (refl, same_Some x y e)
get_below [] x y (suc i) e = cc
get_below (z ∷ zs) x y zero e = inl e
get_below (z ∷ zs) x y (suc i) e = elim (get_below zs x y i e) [
  | inl old ↦ inl old
  | inr new ↦ inr (ap suc new.0, new.1)
]

place_within : {X : Type 0} → (xs : List X) (i : ℕ) (x : X) → slice_get xs i ≡ Some x → i < length xs
place_within [] i x e = cc
place_within (y ∷ ys) zero x e = omega arith
place_within (y ∷ ys) (suc i) x e = let h = place_within ys i x e in omega (arith, h)

-- ---- the newest of a bucket

module _ (count b : ℕ) where
  abbrev is_in : Entry → Bool
  is_in e = nat_eq (bucket_of count e) b

  later_push : (c : Bool) (m n k : ℕ) → later (cond c (suc n) m) k ≡ cond c (suc (suc n)) (later m k)
  later_push true m n k = refl
  later_push false m n k = refl

  newest_push : (es : List Entry) (e : Entry) → newest count b (es ++ e ∷ []) ≡ cond (is_in e) (suc (length es)) (newest count b es)
  newest_push [] e = refl
  newest_push (d ∷ es) e =
      ap (λ m. later m (cond (is_in d) 1 0)) (newest_push es e) ∙ later_push (is_in e) (newest count b es) (length es) (cond (is_in d) 1 0)

  at_most_one : (c : Bool) → cond c 1 0 ≤ 1
  at_most_one true = omega arith
  at_most_one false = omega arith

  later_within : (m k n : ℕ) → m ≤ n → k ≤ 1 → later m k ≤ suc n
  later_within zero k n h one = omega (arith, one)
  later_within (suc i) k n h one = omega (arith, h)

  pub newest_within : (es : List Entry) → newest count b es ≤ length es
  newest_within [] = omega arith
  newest_within (e ∷ es) = later_within (newest count b es) (cond (is_in e) 1 0) (length es) (newest_within es) (at_most_one (is_in e))

  -- what stands at three numbers of the bucket stands no later than the newest
  module _ (k : Key) (here : bucket count k.0 k.1 k.2 ≡ b) where
    apart : (e : Entry) → is_in e ≡ false → value_there e k ≡ None
    apart e out = elim (cases_Bool (same_key (e.x, e.y, e.z) k)) [
      | inl same ↦ let f : true ≡ false = sym (eq-eqb (bucket_of count e) b (one_bucket count e k same ∙ here)) ∙ out in cc
      | inr other ↦ value_other e k other
    ]

    known_step : (e : Entry) (es : List Entry) (m : ℕ) → newest_there es k ≡ newest_there (take m es) k
        → or_else (newest_there es k) (value_there e k) ≡ newest_there (take (later m (cond (is_in e) 1 0)) (e ∷ es)) k
    known_step e es (suc i) is = ap (λ o. or_else o (value_there e k)) is
    known_step e es zero is = ap (λ o. or_else o (value_there e k)) is ∙ elim (cases_Bool (is_in e)) [
      | inl in_it ↦ ap (λ c. newest_there (take (cond c 1 0) (e ∷ es)) k) (sym in_it)
      | inr out ↦ apart e out ∙ ap (λ c. newest_there (take (cond c 1 0) (e ∷ es)) k) (sym out)
    ]

    pub known_newest : (es : List Entry) → newest_there es k ≡ newest_there (take (newest count b es) es) k
    known_newest [] = refl
    known_newest (e ∷ es) = known_step e es (newest count b es) (known_newest es)

  newest_step : (e : Entry) (es : List Entry) (m : ℕ) → newest count b (take m es) ≡ m
      → newest count b (take (later m (cond (is_in e) 1 0)) (e ∷ es)) ≡ later m (cond (is_in e) 1 0)
  newest_step e es (suc i) is = ap (λ m. later m (cond (is_in e) 1 0)) is
  newest_step e es zero is = elim (cases_Bool (is_in e)) [
    | inl in_it ↦
        ap (λ c. newest count b (take (cond c 1 0) (e ∷ es))) in_it ∙ ap (λ c. cond c 1 0) in_it ∙ ap (λ c. cond c 1 0) (sym in_it)
    | inr out ↦ ap (λ c. newest count b (take (cond c 1 0) (e ∷ es))) out ∙ ap (λ c. cond c 1 0) (sym out)
  ]

  -- the newest of those up to the newest is the newest
  pub newest_itself : (es : List Entry) → newest count b (take (newest count b es) es) ≡ newest count b es
  newest_itself [] = refl
  newest_itself (e ∷ es) = newest_step e es (newest count b es) (newest_itself es)

  pub in_bucket : (es : List Entry) (i : ℕ) (e : Entry) → slice_get es i ≡ Some e → newest count b (take (suc i) es) ≡ suc i → bucket_of count e ≡ b
  in_bucket es i e at is = elim (cases_Bool (is_in e)) [
    | inl in_it ↦ eqb-true (bucket_of count e) b in_it
    | inr out ↦
        let within = place_within es i e at in
        let count_i : length (take i es) ≡ i = length-take-le i es (omega (arith, within)) in
        let old : newest count b (take i es) ≡ suc i =
        sym (cond-false (is_in e) (suc (length (take i es))) (newest count b (take i es)) out) ∙ sym (newest_push (take i es) e)
        ∙ ap (newest count b) (sym (take_step es i e at)) ∙ is in
        let most = newest_within (take i es) in
        absurd (omega (arith, count_i, old, most))
  ]

-- ---- looking up

-- how far a walk along a chain has come
pub record Walks (count : ℕ) (es : List Entry) (k : Key) (at : ℕ) : Type 0 where
  pub newest_is : newest count (bucket count k.0 k.1 k.2) (take at es) ≡ at
  pub within : at ≤ length es
  pub rest : newest_there es k ≡ newest_there (take at es) k

pub walk_begun : (heads : List ℕ) (es : List Entry) (k : Key) → IsLinked heads es → bucket (length heads) k.0 k.1 k.2 < length heads → (at : ℕ)
    → at ≡ get_or heads (bucket (length heads) k.0 k.1 k.2) 0 → Walks (length heads) es k at
walk_begun heads es k linked below at is =
    let b : ℕ = bucket (length heads) k.0 k.1 k.2 in
    let head : at ≡ newest (length heads) b es = is ∙ linked.newest_at b below in
    subst (Walks (length heads) es k) (sym head) (record {
      newest_is = newest_itself (length heads) b es;
      within = newest_within (length heads) b es;
      rest = known_newest (length heads) b k refl es;
    })

module _ (heads : List ℕ) (es : List Entry) (k : Key) (linked : IsLinked heads es) (i : ℕ) (w : Walks (length heads) es k (suc i)) (e : Entry) (there : slice_get es i ≡ Some e) where
  abbrev b : ℕ
  b = bucket (length heads) k.0 k.1 k.2

  up_to : newest_there es k ≡ or_else (value_there e k) (newest_there (take i es) k)
  up_to = w.rest ∙ ap (λ l. newest_there l k) (take_step es i e there) ∙ there_push (take i es) e k

  pub walk_found : same_key (e.x, e.y, e.z) k ≡ true → newest_there es k ≡ Some e.value
  walk_found same = up_to ∙ ap (λ o. or_else o (newest_there (take i es) k)) (value_same e k same)

  pub walk_on : same_key (e.x, e.y, e.z) k ≡ false → (e.older < suc i) × Walks (length heads) es k e.older
  walk_on other =
      let home : bucket_of (length heads) e ≡ b = in_bucket (length heads) b es i e there w.newest_is in
      let older : e.older ≡ newest (length heads) b (take i es) = linked.older_at i e there ∙ ap (λ c. newest (length heads) c (take i es)) home in
      let place = place_within es i e there in
      let count_i : length (take i es) ≡ i = length-take-le i es (omega (arith, place)) in
      let most = newest_within (length heads) b (take i es) in
      let less : e.older ≤ i = omega (arith, older, most, count_i) in
      let cut : take e.older (take i es) ≡ take e.older es = take_less e.older i es less in
      let P : ℕ → Type 0 = λ m. newest (length heads) b (take m (take i es)) ≡ m in
      let Q : ℕ → Type 0 = λ m. newest_there (take i es) k ≡ newest_there (take m (take i es)) k in (
        omega (arith, less),
        record {
          newest_is = ap (newest (length heads) b) (sym cut) ∙ subst P (sym older) (newest_itself (length heads) b (take i es));
          within = omega (arith, less, place);
          rest =
              up_to ∙ ap (λ o. or_else o (newest_there (take i es) k)) (value_other e k other)
              ∙ subst Q (sym older) (known_newest (length heads) b k refl (take i es)) ∙ ap (λ l. newest_there l k) cut;
        },
      )

pub walk_ended : (count : ℕ) (es : List Entry) (k : Key) (at : ℕ) → at ≡ 0 → Walks count es k at → newest_there es k ≡ None
walk_ended count es k at none w = w.rest ∙ ap (λ m. newest_there (take m es) k) none

-- ---- one more entry

pub linked_push : (heads : List ℕ) (es : List Entry) → IsLinked heads es → (e : Entry) → bucket_of (length heads) e < length heads
    → e.older ≡ get_or heads (bucket_of (length heads) e) 0 → (place : ℕ) → place ≡ suc (length es) → IsLinked (set heads (bucket_of (length heads) e) place) (es ++ e ∷ [])
linked_push heads es linked e below older place is =
    let c : ℕ = bucket_of (length heads) e in
    let P : ℕ → Type 0 = λ n. (d : ℕ) → d < length heads → get_or (set heads c place) d 0 ≡ newest n d (es ++ e ∷ []) in
    let Q : ℕ → Type 0 = λ n. (i : ℕ) (f : Entry) → slice_get (es ++ e ∷ []) i ≡ Some f → f.older ≡ newest n (bucket_of n f) (take i (es ++ e ∷ [])) in
    let same : length heads ≡ length (set heads c place) = sym (length-set heads c place) in
    let at_each : P (length heads) = λ d less. elim (cases_eq c d) [
      | inl here ↦
          ap (λ i. get_or (set heads c place) i 0) (sym here) ∙ get_or-set_same heads c place 0 below ∙ is
          ∙ sym (newest_push (length heads) d es e ∙ cond-true (nat_eq c d) (suc (length es)) (newest (length heads) d es) (eq-eqb c d here))
      | inr apart ↦
          get_or-set_other heads c d place 0 (λ f. apart (sym f)) ∙ linked.newest_at d less
          ∙ sym (newest_push (length heads) d es e ∙ cond-false (nat_eq c d) (suc (length es)) (newest (length heads) d es) (false_from_ne_true (nat_eq c d) (λ f. apart (eqb-true c d f))))
    ] in
    let old_each : Q (length heads) = λ i f there. elim (get_below es e f i there) [
      | inl old ↦
          let within = place_within es i f old in
          linked.older_at i f old ∙ ap (newest (length heads) (bucket_of (length heads) f)) (sym (take-append-le i es (e ∷ []) (omega (arith, within))))
      | inr new ↦
          let R : Entry → Type 0 = λ g. g.older ≡ newest (length heads) (bucket_of (length heads) g) es in
          let whole : take i (es ++ e ∷ []) ≡ es = ap (λ j. take j (es ++ e ∷ [])) new.0 ∙ take-append-le (length es) es (e ∷ []) (omega arith) ∙ take_all es in
          subst R new.1 (older ∙ linked.newest_at c below) ∙ ap (newest (length heads) (bucket_of (length heads) f)) (sym whole)
    ] in
    record {
      newest_at = λ d less. subst P same at_each d (omega (arith, less, same));
      older_at = subst Q same old_each;
    }

-- an entry that is chained anew
abbrev pub relinked : Entry → ℕ → Entry
relinked e older = record { x = e.x; y = e.y; z = e.z; value = e.value; older = older }

pub there_set : (es : List Entry) (i : ℕ) (e : Entry) (older : ℕ) → slice_get es i ≡ Some e → (k : Key) → newest_there (set es i (relinked e older)) k ≡ newest_there es k
there_set [] i e older at k = cc
there_set (d ∷ es) zero e older at k = ap (λ g. or_else (newest_there es k) (value_there g k)) (sym (same_Some d e at))
there_set (d ∷ es) (suc i) e older at k = ap (λ o. or_else o (value_there d k)) (there_set es i e older at k)
