-- What a variable becomes, with a part more.
use Rattle.std.proofs.Common.{◌≡◌, ℕ, ◌+◌, ◌<◌, ◌^◌, Bool, true, false, not, cond, ◌||◌, List, [], ◌∷◌, ◌++◌, length, Option, None, ℤ, refl, ap, ap₂, ◌∙◌, append-nil, arith}
use Rattle.std.specs.Prelude.{flat_map, bit_or, bytes_eq}
use Rattle.std.specs.List.{list_any}
use Rattle.std.proofs.lemmas.Grind.{flat_map-append}
use Rattle.std.proofs.lemmas.List.Sums.{fold_push}
use Rattle.document_forms.specs.Names.{is_among, number_in, has_unknown}
use Rattle.document_forms.specs.Weights.{PartForm, OfVariable, OfNumber, Parts}
use Rattle.document_forms.specs.Kinds.{part_names, is_wide_part}
use Rattle.document_forms.specs.Documents.{constants_in, variables_in, same_integer, one_constant, bits_at, meet_of, parts_value}
use Rattle.rule_reader.specs.private.FormReads.{constant_more}
use Rattle.std.proofs.lemmas.List.Folds.{list_any-append}
use Rattle.rule_reader.proofs.NamesOnceLemmas.{any_push}

pub flat_map_push : {X A : Type 0} (f : X → List A) (xs : List X) (y : X) → flat_map f (xs ++ y ∷ []) ≡ flat_map f xs ++ f y
flat_map_push f xs y = flat_map-append f xs (y ∷ []) ∙ ap (λ l. flat_map f xs ++ l) (append-nil (f y))

constant_push : (cs : List ℤ) (c : ℤ) → one_constant (cs ++ c ∷ []) ≡ constant_more (one_constant cs) c
constant_push [] c = refl
constant_push (x ∷ []) c = refl
constant_push (x ∷ y ∷ xs) c = go (same_integer x y) (constant_push (y ∷ xs) c)
  where
    go :
        (t : Bool) → one_constant ((y ∷ xs) ++ c ∷ []) ≡ constant_more (one_constant (y ∷ xs)) c
        → cond t (one_constant ((y ∷ xs) ++ c ∷ [])) None ≡ constant_more (cond t (one_constant (y ∷ xs)) None) c
    go true e = e
    go false e = refl

pub number_below : (items : List (List ℕ)) (x : List ℕ) → is_among items x ≡ true → number_in items x < length items
number_below [] x h = cc
number_below (y ∷ ys) x h = go (bytes_eq x y) h (number_below ys x)
  where
    go : (t : Bool) → (t || is_among ys x) ≡ true → (is_among ys x ≡ true → number_in ys x < length ys) → cond t 0 (number_in ys x + 1) < length (y ∷ ys)
    go true e more = omega arith
    go false e more = let m = more e in omega arith

abbrev pub constants : List PartForm → Option (Option ℤ)
constants ps = one_constant (flat_map constants_in ps)

abbrev pub bits : List (List ℕ) → List PartForm → ℕ
bits items ps = bits_at (flat_map (variables_in items) ps)

pub variable_value : (items : List (List ℕ)) (ps : List PartForm) (x : List ℕ) → parts_value items (Parts (ps ++ OfVariable x ∷ [])) ≡ meet_of (constants ps) (bit_or (bits items ps) (2 ^ number_in items x))
variable_value items ps x =
    ap₂ meet_of
    (ap one_constant (flat_map_push constants_in ps (OfVariable x) ∙ append-nil (flat_map constants_in ps)))
    (ap bits_at (flat_map_push (variables_in items) ps (OfVariable x)) ∙ fold_push (λ n k. bit_or n (2 ^ k)) 0 (flat_map (variables_in items) ps) (number_in items x))

pub constant_value : (items : List (List ℕ)) (ps : List PartForm) (negative : Bool) (n : List ℕ) (c : ℤ) → constants_in (OfNumber negative n) ≡ c ∷ []
    → parts_value items (Parts (ps ++ OfNumber negative n ∷ [])) ≡ meet_of (constant_more (constants ps) c) (bits items ps)
constant_value items ps negative n c e =
    ap₂ meet_of
    (ap one_constant (flat_map_push constants_in ps (OfNumber negative n) ∙ ap (λ l. flat_map constants_in ps ++ l) e) ∙ constant_push (flat_map constants_in ps) c)
    (ap bits_at (flat_map_push (variables_in items) ps (OfNumber negative n) ∙ append-nil (flat_map (variables_in items) ps)))

-- whether a name is unknown, with a part more

abbrev pub some_unknown : List (List ℕ) → List PartForm → Bool
some_unknown items ps = has_unknown items (flat_map part_names ps)

unknown_push : (items : List (List ℕ)) (ps : List PartForm) (p : PartForm) → some_unknown items (ps ++ p ∷ []) ≡ (some_unknown items ps || has_unknown items (part_names p))
unknown_push items ps p = ap (has_unknown items) (flat_map_push part_names ps p) ∙ list_any-append (λ x. not (is_among items x)) (flat_map part_names ps) (part_names p)

or_none : (b : Bool) → (b || false) ≡ b
or_none true = refl
or_none false = refl

pub known_variable : (items : List (List ℕ)) (ps : List PartForm) (x : List ℕ) → is_among items x ≡ true → some_unknown items (ps ++ OfVariable x ∷ []) ≡ some_unknown items ps
known_variable items ps x h = unknown_push items ps (OfVariable x) ∙ ap (λ b. some_unknown items ps || (not b || false)) h ∙ or_none (some_unknown items ps)

pub no_name : (items : List (List ℕ)) (ps : List PartForm) (negative : Bool) (n : List ℕ) → some_unknown items (ps ++ OfNumber negative n ∷ []) ≡ some_unknown items ps
no_name items ps negative n = unknown_push items ps (OfNumber negative n) ∙ or_none (some_unknown items ps)

pub narrow_push : (ps : List PartForm) (p : PartForm) → is_wide_part p ≡ false → list_any is_wide_part (ps ++ p ∷ []) ≡ list_any is_wide_part ps
narrow_push ps p h = any_push is_wide_part ps p ∙ ap (λ b. list_any is_wide_part ps || b) h ∙ or_none (list_any is_wide_part ps)
