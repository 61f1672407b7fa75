-- Texts that are added to a row one by one.
use Rattle.std.proofs.Common.{◌≡◌, ℕ, zero, suc, ◌+◌, Bool, true, false, List, [], ◌∷◌, ◌++◌, map, refl, sym, ap, ◌∙◌, subst, append_assoc, append-nil, arith}
use Rattle.std.specs.List.{join_with_byte, range_with_len}
use Rattle.std.specs.Prelude.{filter}
use Rattle.std.proofs.lemmas.List.{map-append}
use Rattle.std.proofs.lemmas.List.Elements.{filter-append}
use Rattle.document_forms.specs.Names.{name}
use Rattle.document_systems.specs.private.Rows.{IsRow, has_some}
use Rattle.document_systems.specs.declared.row.Row.{Row}

pub join_push : (c : ℕ) (ts : List (List ℕ)) (t : List ℕ) → has_some ts ≡ true → join_with_byte c (ts ++ t ∷ []) ≡ join_with_byte c ts ++ c ∷ t
join_push c [] t some = cc
join_push c (x ∷ []) t some = refl
join_push c (x ∷ y ∷ ys) t some =
    ap (λ r. x ++ c ∷ r) (join_push c (y ∷ ys) t refl) ∙ sym (append_assoc x (c ∷ join_with_byte c (y ∷ ys)) (c ∷ t))

pub none_yet : (ts : List (List ℕ)) → has_some ts ≡ false → ts ≡ []
none_yet [] none = refl
none_yet (t ∷ ts) none = cc

pub some_now : (ts : List (List ℕ)) (t : List ℕ) → has_some (ts ++ t ∷ []) ≡ true
some_now [] t = refl
some_now (x ∷ xs) t = refl

-- ---- the names whose numbers pass a test

-- those among the first so many
abbrev pub names_below : List (List ℕ) → (ℕ → Bool) → ℕ → List (List ℕ)
names_below names test count = map (name names) (filter test (range_with_len 0 count))

range_more : (a n : ℕ) → range_with_len a (suc n) ≡ range_with_len a n ++ (a + n) ∷ []
range_more a zero = ap (λ k. k ∷ []) (omega arith)
range_more a (suc n) =
    let count : (a + 1) + n ≡ a + suc n = omega arith in
    ap (λ ks. a ∷ ks) (range_more (a + 1) n ∙ ap (λ k. range_with_len (a + 1) n ++ k ∷ []) count)

-- a name more, if its number passes
names_more : (names : List (List ℕ)) (test : ℕ → Bool) (k : ℕ) → names_below names test (k + 1) ≡ names_below names test k ++ map (name names) (filter test (k ∷ []))
names_more names test k =
    let next : k + 1 ≡ suc k = omega arith in
    let same : 0 + k ≡ k = omega arith in
    ap (names_below names test) next
    ∙ ap (λ ks. map (name names) (filter test ks)) (range_more 0 k)
    ∙ ap (λ j. map (name names) (filter test (range_with_len 0 k ++ j ∷ []))) same
    ∙ ap (map (name names)) (filter-append test (range_with_len 0 k) (k ∷ []))
    ∙ map-append (name names) (filter test (range_with_len 0 k)) (filter test (k ∷ []))

pub name_passes : (names : List (List ℕ)) (test : ℕ → Bool) (k : ℕ) → test k ≡ true → names_below names test (k + 1) ≡ names_below names test k ++ name names k ∷ []
name_passes names test k passes = names_more names test k ∙ rw passes refl

pub name_stays_out : (names : List (List ℕ)) (test : ℕ → Bool) (k : ℕ) → test k ≡ false → names_below names test (k + 1) ≡ names_below names test k
name_stays_out names test k fails = names_more names test k ∙ rw fails (append-nil (names_below names test k))

-- ---- a row with a text more

pub first_text : (mark : ℕ) (texts : List (List ℕ)) (old new : Row) (t : List ℕ) → IsRow mark texts old → old.some ≡ false → new.mark ≡ old.mark
    → new.text.items ≡ old.text.items ++ t → new.some ≡ true → IsRow mark (texts ++ t ∷ []) new
first_text mark texts old new t is none between text some =
    let empty : texts ≡ [] = none_yet texts (sym is.some ∙ none) in
    record {
      between = between ∙ is.between;
      text = text ∙ ap (λ ts. ts ++ t) (is.text ∙ ap (join_with_byte mark) empty) ∙ ap (λ ts. join_with_byte mark (ts ++ t ∷ [])) (sym empty);
      some = some ∙ sym (some_now texts t);
    }

pub next_text : (mark : ℕ) (texts : List (List ℕ)) (old new : Row) (t : List ℕ) → IsRow mark texts old → old.some ≡ true → new.mark ≡ old.mark
    → new.text.items ≡ (old.text.items ++ old.mark ∷ []) ++ t → new.some ≡ true → IsRow mark (texts ++ t ∷ []) new
next_text mark texts old new t is more between text some = record {
  between = between ∙ is.between;
  text =
      text
      ∙ append_assoc old.text.items (old.mark ∷ []) t
      ∙ ap (λ m. old.text.items ++ m ∷ t) is.between
      ∙ ap (λ ts. ts ++ mark ∷ t) is.text
      ∙ sym (join_push mark texts t (sym is.some ∙ more));
  some = some ∙ sym (some_now texts t);
}

-- a row with a name more, if its number passes
module _ (names : List (List ℕ)) (test : ℕ → Bool) (k mark : ℕ) (texts : List (List ℕ)) where
  pub with_name : (old new : Row) → test k ≡ true → IsRow mark (texts ++ names_below names test k) old
      → (IsRow mark (texts ++ names_below names test k) old → IsRow mark ((texts ++ names_below names test k) ++ name names k ∷ []) new)
      → IsRow mark (texts ++ names_below names test (k + 1)) new
  with_name old new passes is push =
      let found = names_below names test k in
      subst (λ ts. IsRow mark ts new) (append_assoc texts found (name names k ∷ []) ∙ ap (λ ts. texts ++ ts) (sym (name_passes names test k passes))) (push is)

  pub without_name : (row : Row) → test k ≡ false → IsRow mark (texts ++ names_below names test k) row → IsRow mark (texts ++ names_below names test (k + 1)) row
  without_name row fails is = subst (λ ns. IsRow mark (texts ++ ns) row) (sym (name_stays_out names test k fails)) is
