-- Names that are added one by one to a table of their own.
use Rattle.std.proofs.Common.{◌≡◌, ℕ, zero, suc, ◌+◌, ◌<◌, inl, inr, Bool, false, not, cond, List, [], ◌∷◌, ◌++◌, length, take, get_or, Bor, refl, sym, ap, ◌∙◌, subst, arith}
use Rattle.std.specs.Prelude.{Some, bytes_eq, slice_get}
use Rattle.std.proofs.lemmas.Option.{same_Some, slice_get_within}
use Rattle.std.proofs.lemmas.Bool.{false_from_ne_true}
use Rattle.std.proofs.lemmas.List.{take_more}
use Rattle.std.proofs.lemmas.Slice.Eq.{bytes_eq-Decides}
use Rattle.document_forms.specs.Names.{is_among}
use Rattle.wpds_base.specs.Lists.{IsIn, IsOnce}
use Rattle.rule_reader.specs.private.NameTables.{bytes_of}

in_place : (xs : List (List ℕ)) (k : ℕ) → k < length xs → IsIn (get_or xs k []) xs
in_place [] k h = absurd (omega arith)
in_place (x ∷ xs) zero h = inl refl
in_place (x ∷ xs) (suc k) h = inr (in_place xs k (omega arith))

-- a name is none of those before it
once_before : (xs : List (List ℕ)) (k : ℕ) → IsOnce xs → k < length xs → is_among (take k xs) (get_or xs k []) ≡ false
once_before [] k o h = absurd (omega arith)
once_before (x ∷ xs) zero o h = refl
once_before (x ∷ xs) (suc k) o h =
    let y = get_or xs k [] in
    let here = in_place xs k (omega arith) in
    let apart : bytes_eq y x ≡ false =
    false_from_ne_true (bytes_eq y x) (λ e. o.0 (subst (λ z. IsIn z xs) ((bytes_eq-Decides y x).0 e) here)) in
    rw apart (once_before xs k o.1 (omega arith))

text_at : (slices : List (Bor (List ℕ))) (s : Bor (List ℕ)) (k : ℕ) → slice_get slices k ≡ Some s → s.now ≡ get_or (bytes_of slices) k []
text_at [] s k at = cc
text_at (x ∷ xs) s zero at = ap (λ (slice : Bor (List ℕ)). slice.now) (sym (same_Some x s at))
text_at (x ∷ xs) s (suc k) at = text_at xs s k at

same_length : (slices : List (Bor (List ℕ))) → length (bytes_of slices) ≡ length slices
same_length [] = refl
same_length (s ∷ ss) = ap suc (same_length ss)

module _ (slices : List (Bor (List ℕ))) (s : Bor (List ℕ)) (k : ℕ) (at : slice_get slices k ≡ Some s) where
  abbrev names : List (List ℕ)
  names = bytes_of slices

  within : k < length names
  within = subst (λ m. k < m) (sym (same_length slices)) (slice_get_within slices k s at)

  -- one name more of those in front
  pub next_name : take (k + 1) names ≡ take k names ++ s.now ∷ []
  next_name = take_more names k [] within ∙ ap (λ y. take k names ++ y ∷ []) (sym (text_at slices s k at))

  -- it is added to those before it, and so these are one more
  pub copied : (old new : List (List ℕ)) (added : Bool) → IsOnce names → old ≡ take k names
      → added ≡ not (is_among old s.now) → new ≡ cond added (old ++ s.now ∷ []) old → new ≡ take (k + 1) names
  copied old new added o was a n =
      let fresh : is_among old s.now ≡ false =
      ap (λ l. is_among l s.now) was ∙ ap (is_among (take k names)) (text_at slices s k at) ∙ once_before names k o within in
      n ∙ ap (λ b. cond b (old ++ s.now ∷ []) old) (a ∙ ap not fresh) ∙ ap (λ l. l ++ s.now ∷ []) was ∙ sym next_name
