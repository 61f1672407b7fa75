-- Names and their numbers, one name more.
use Rattle.std.proofs.Common.{◌≡◌, ℕ, suc, ◌+◌, inl, inr, Bool, true, false, ◌||◌, not, cond, List, [], ◌∷◌, ◌++◌, length, Some, None, Bor, refl, sym, ap, ◌∙◌, subst, arith}
use Rattle.std.proofs.Math.Logic.{⊎_elim}
use Rattle.std.specs.Prelude.{◌⊎◌, Option, MatchOption, bytes_eq, nat_lt}
use Rattle.std.specs.Cmp.Lexicographic.{slice_cmp}
use Rattle.std.specs.Ordering.{nat_cmp, eq_by_cmp}
use Rattle.std.specs.declared.cmp.Ordering.{Ordering}
use Rattle.std.proofs.lemmas.Bool.{or_parts, lt-ltb}
use Rattle.std.proofs.lemmas.List.{length_push, map_push}
use Rattle.std.proofs.lemmas.Map.Text.{is_eq-slice_cmp}
use Rattle.std.proofs.lemmas.Slice.Eq.{bytes_eq-Decides}
use Rattle.document_forms.specs.Names.{is_among, number_in}
use Rattle.key_rows.specs.Members.{number_of}
use Rattle.wpds_base.specs.Lists.{IsIn, IsOnce}
use Rattle.rule_reader.specs.Names.{number_among}
use Rattle.rule_reader.specs.private.NameTables.{bytes_of}

abbrev Slice : Type 0
Slice = Bor (List ℕ)

differ : false ≡ true → ⊥
differ e = cc

among_in : (names : List (List ℕ)) (x : List ℕ) → is_among names x ≡ true → IsIn x names
among_in [] x h = cc
among_in (y ∷ ys) x h = elim (bytes_eq x y) as (λ b. bytes_eq x y ≡ b → (b || is_among ys x) ≡ true → IsIn x (y ∷ ys)) [
  | true ↦ λ e f. inl (sym ((bytes_eq-Decides x y).0 e))
  | false ↦ λ e f. inr (among_in ys x f)
] refl h

in_push : (names : List (List ℕ)) (x y : List ℕ) → IsIn y (names ++ x ∷ []) → IsIn y names ⊎ (x ≡ y)
in_push [] x y (inl e) = inr e
in_push [] x y (inr i) = absurd i
in_push (z ∷ zs) x y (inl e) = inl (inl e)
in_push (z ∷ zs) x y (inr i) = ⊎_elim (λ j. inl (inr j)) inr (in_push zs x y i)

once_push : (names : List (List ℕ)) (x : List ℕ) → is_among names x ≡ false → IsOnce names → IsOnce (names ++ x ∷ [])
once_push [] x h o = ((λ i. i), tt)
once_push (y ∷ ys) x h o =
    let k = or_parts (bytes_eq x y) (is_among ys x) h in
    let apart = λ (e : x ≡ y). differ (sym k.0 ∙ (bytes_eq-Decides x y).1 e) in
    ((λ i. ⊎_elim o.0 apart (in_push ys x y i)), once_push ys x k.1 o.1)

-- where the last stands, by whether the name is here and whether it is behind
abbrev last : Bool → Option ℕ → Option ℕ
last here behind = elim behind [ Some k ↦ Some (suc k) | None ↦ cond here (Some 0) None ]

one_more : (here later : Bool) (n : ℕ) → (here ≡ true → later ≡ true → ⊥)
    → last here (cond later (Some n) None) ≡ cond (here || later) (Some (cond here 0 (n + 1))) None
one_more true true n apart = absurd (apart refl refl)
one_more true false n apart = refl
one_more false true n apart = let next : suc n ≡ n + 1 = omega arith in ap Some next
one_more false false n apart = refl

abbrev name_cmp : Slice → Slice → Ordering
name_cmp x y = slice_cmp nat_cmp x.now y.now

abbrev member_number : Slice → List Slice → Option ℕ
member_number x slices = number_of name_cmp (λ slice. slice) x slices

-- where the last stands that has a name is its number, where each stands once
pub last_is_number : (slices : List Slice) (x : Slice) → IsOnce (bytes_of slices)
    → member_number x slices ≡ number_among (bytes_of slices) x.now
last_is_number [] x once = refl
last_is_number (s ∷ ss) x once =
    let names = bytes_of ss in
    let apart = λ (e : bytes_eq x.now s.now ≡ true) (f : is_among names x.now ≡ true).
    once.0 (subst (λ y. IsIn y names) ((bytes_eq-Decides x.now s.now).0 e) (among_in names x.now f)) in
    ap (last (eq_by_cmp name_cmp x s)) (last_is_number ss x once.1)
    ∙ ap (λ here. last here (number_among names x.now)) (is_eq-slice_cmp x.now s.now)
    ∙ one_more (bytes_eq x.now s.now) (is_among names x.now) (number_in names x.now) apart

-- what a name makes of others, which was among them or was not
pub record IsAdded (old new : List Slice) (x : Slice) (was : Bool) : Type 0 where
  pub added : nat_lt (length old) (length new) ≡ not was
  pub names : bytes_of new ≡ cond (not was) (bytes_of old ++ x.now ∷ []) (bytes_of old)
  pub once : IsOnce (bytes_of new)

not_more : (n : ℕ) → nat_lt n n ≡ false
not_more n = grind arith

one_longer : (slices : List Slice) (x : Slice) → nat_lt (length slices) (length (slices ++ x ∷ [])) ≡ true
one_longer slices x = lt-ltb (length slices) (length (slices ++ x ∷ [])) (omega (arith, length_push slices x))

module _ (old new : List Slice) (x : Slice) (once : IsOnce (bytes_of old)) where
  abbrev IsMadeOf : Option ℕ → Type 0
  IsMadeOf found = MatchOption found (new ≡ old ++ x ∷ []) (λ _. new ≡ old)

  either_way : (was : Bool) → is_among (bytes_of old) x.now ≡ was → IsMadeOf (cond was (Some (number_in (bytes_of old) x.now)) None) → IsAdded old new x was
  either_way true e same = subst (λ now. IsAdded old now x true) (sym same) (record { added = not_more (length old); names = refl; once = once })
  either_way false e more = subst (λ now. IsAdded old now x false) (sym more) (record {
    added = one_longer old x;
    names = map_push (λ slice. slice.now) old x;
    once = subst IsOnce (sym (map_push (λ slice. slice.now) old x)) (once_push (bytes_of old) x.now e once);
  })

  pub name_added : IsMadeOf (member_number x old) → IsAdded old new x (is_among (bytes_of old) x.now)
  name_added made = either_way (is_among (bytes_of old) x.now) refl (subst IsMadeOf (last_is_number old x once) made)
