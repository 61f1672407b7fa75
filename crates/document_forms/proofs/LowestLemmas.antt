-- Of conditions that stand in the order of their kinds the first has the lowest kind.
use Rattle.std.proofs.Common.{◌≡◌, ◌↔◌, inl, inr, ℕ, ◌≤◌, ◌<◌, Bool, true, false, cond, ◌&&◌, [], ◌∷◌, Option, Some, None, refl, sym, ap, ap₂, ◌∙◌, subst, arith, le_of_eq, le_of_lt, le_antisymm}
use Rattle.std.specs.Prelude.{nat_lt, slice_index_or}
use Rattle.std.proofs.lemmas.Bool.{and_parts, ltb-true}
use Rattle.wpds_base.specs.Faults.{first_fault}
use Rattle.wpds_base.specs.Lists.{IsIn}
use Rattle.wpds_port.specs.declared.Kind.{Kind}
use Rattle.wpds_port.specs.declared.Kind.TheVariants.{TooLong, NotText, Header, Form, Twice, Unknown, WeightText, Return, Count, NothingAsked, Arity, TooWide, Label}
use Rattle.wpds_port.specs.Refusals.{kind_number}
use Rattle.document_forms.specs.Kinds.{Conditions}
use Rattle.document_forms.specs.Refused.{HasKind, IsLowest}

-- ---- which conditions hold

pub none_in : (cs : Conditions) → first_fault cs ≡ None → (k : Kind) → IsIn (true, k) cs → ⊥
none_in [] e k i = i
none_in (c ∷ cs) e k i = go c.0 refl e (none_in cs)
  where
    differ : false ≡ true → ⊥
    differ p = cc

    go :
        (t : Bool) → c.0 ≡ t → cond t (Some c.1) (first_fault cs) ≡ None
        → (first_fault cs ≡ None → (j : Kind) → IsIn (true, j) cs → ⊥) → ⊥
    go true t s more = cc
    go false f s more = elim i [
      | inl p ↦ differ (sym f ∙ ap (λ q. q.0) p)
      | inr further ↦ more s k further
    ]

some_in : (cs : Conditions) (k : Kind) → first_fault cs ≡ Some k → IsIn (true, k) cs
some_in [] k e = cc
some_in (c ∷ cs) k e = go c.0 refl e (some_in cs k)
  where
    go :
        (t : Bool) → c.0 ≡ t → cond t (Some c.1) (first_fault cs) ≡ Some k
        → (first_fault cs ≡ Some k → IsIn (true, k) cs) → IsIn (true, k) (c ∷ cs)
    go true t s more = let same : c.1 ≡ k = cc in inl (ap₂ (λ a b. (a, b)) t same)
    go false f s more = inr (more s)

-- none is found where none holds
pub none_first : (cs : Conditions) → (first_fault cs ≡ None) ↔ ((k : Kind) → HasKind cs k → ⊥)
none_first cs = (none_in cs, λ h. go (first_fault cs) refl h)
  where
    go : (o : Option Kind) → first_fault cs ≡ o → ((k : Kind) → HasKind cs k → ⊥) → o ≡ None
    go None e h = refl
    go (Some k) e h = absurd (h k (some_in cs k e))

-- ---- the first of conditions in the order of their kinds has the lowest kind

-- the numbers of the kinds rise, from above this one
abbrev pub rises : ℕ → Conditions → Bool
rises n [] = true
rises n (c ∷ cs) = nat_lt n (kind_number c.1) && rises (kind_number c.1) cs

past : (n : ℕ) (cs : Conditions) (j : Kind) → rises n cs ≡ true → IsIn (true, j) cs → n < kind_number j
past n [] j h i = absurd i
past n (c ∷ cs) j h i =
    let k = and_parts (nat_lt n (kind_number c.1)) (rises (kind_number c.1) cs) h in
    let less = ltb-true n (kind_number c.1) k.0 in
    elim i [
      | inl e ↦ subst (λ m. n < m) (ap (λ p. kind_number p.1) e) less
      | inr more ↦ let further = past (kind_number c.1) cs j k.1 more in omega arith
    ]

lowest_in :
    (n : ℕ) (cs : Conditions) (k : Kind)
    → rises n cs ≡ true → first_fault cs ≡ Some k → IsLowest cs k
lowest_in n [] k h e = cc
lowest_in n (c ∷ cs) k h e =
    go c.0 refl e (λ rise s. lowest_in (kind_number c.1) cs k rise s)
  where
    parts : (nat_lt n (kind_number c.1) ≡ true) × (rises (kind_number c.1) cs ≡ true)
    parts = and_parts (nat_lt n (kind_number c.1)) (rises (kind_number c.1) cs) h

    here : c.0 ≡ true → c.1 ≡ k → IsLowest (c ∷ cs) k
    here t s = record {
      has = inl (ap₂ (λ a b. (a, b)) t s);
      lowest = λ j i. elim i [
        | inl p ↦ le_of_eq (ap kind_number (sym s) ∙ ap (λ q. kind_number q.1) p)
        | inr more ↦ subst (λ m. kind_number m ≤ kind_number j) s (le_of_lt (past (kind_number c.1) cs j parts.1 more))
      ];
    }

    further : c.0 ≡ false → IsLowest cs k → IsLowest (c ∷ cs) k
    further f m = record {
      has = inr m.has;
      lowest = λ j i. elim i [
        | inl p ↦ absurd (differ (sym f ∙ ap (λ q. q.0) p))
        | inr more ↦ m.lowest j more
      ];
    }
      where
        differ : false ≡ true → ⊥
        differ e = cc

    go :
        (t : Bool) → c.0 ≡ t → cond t (Some c.1) (first_fault cs) ≡ Some k
        → (rises (kind_number c.1) cs ≡ true → first_fault cs ≡ Some k → IsLowest cs k)
        → IsLowest (c ∷ cs) k
    go true t s more = let same : c.1 ≡ k = cc in here t same
    go false f s more = further f (more parts.1 s)

-- ---- a kind is told by its number

abbrev kind_of : ℕ → Kind
kind_of n =
    slice_index_or
    (TooLong ∷ TooLong ∷ NotText ∷ Header ∷ Form ∷ Twice ∷ Unknown ∷ WeightText ∷ Return
    ∷ Count ∷ NothingAsked ∷ Arity ∷ TooWide ∷ Label ∷ [])
    n TooLong

of_number : (k : Kind) → kind_of (kind_number k) ≡ k
of_number TooLong = refl
of_number NotText = refl
of_number Header = refl
of_number Form = refl
of_number Twice = refl
of_number Unknown = refl
of_number WeightText = refl
of_number Return = refl
of_number Count = refl
of_number NothingAsked = refl
of_number Arity = refl
of_number TooWide = refl
of_number Label = refl

same_kind : (j k : Kind) → kind_number j ≡ kind_number k → j ≡ k
same_kind j k e = sym (of_number j) ∙ ap kind_of e ∙ of_number k

-- so it is the lowest, and no other is
pub lowest_first :
    (cs : Conditions) → rises 0 cs ≡ true → (k : Kind) → (first_fault cs ≡ Some k) ↔ IsLowest cs k
lowest_first cs rise k = (lowest_in 0 cs k rise, λ m. go (first_fault cs) refl m)
  where
    go : (o : Option Kind) → first_fault cs ≡ o → IsLowest cs k → o ≡ Some k
    go None e m = absurd (none_in cs e k m.has)
    go (Some j) e m =
        let n = lowest_in 0 cs j rise e in
        ap Some (same_kind j k (le_antisymm (n.lowest k m.has) (m.lowest j n.has)))
