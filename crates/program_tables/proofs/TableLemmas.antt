-- Tables with what a line more declares.
use Rattle.std.proofs.Common.{◌≡◌, ℕ, max, Bool, true, false, cond, List, [], ◌∷◌, ◌++◌, Option, None, Some, refl, sym, ap, ◌∙◌, append_assoc, append-nil, arith}
use Rattle.std.specs.Prelude.{option_map, unwrap_or, bytes_eq, flat_map, find, is_some}
use Rattle.std.proofs.lemmas.Slice.Eq.{bytes_eq-Decides}
use Rattle.wpds_port.specs.declared.Mark.TheVariants.{Comma}
use Rattle.wpds_port.specs.declared.Word.{Word}
use Rattle.wpds_port.specs.declared.Word.TheVariants.{Name, Number, Mark as Sign}
use Rattle.document_forms.specs.Lines.{in_front}
use Rattle.document_forms.specs.Words.{is_comma, parted, each}
use Rattle.document_forms.specs.Weights.{target_of}
use Rattle.document_forms.specs.Forms.{names_of}
use Rattle.document_reader.specs.NameLines.{names_in}
use Rattle.document_reader.proofs.CallerLemmas.{names_known}
use Rattle.program_forms.specs.Forms.{list_of, params_of}
use Rattle.program_forms.specs.Declared.{ProcHead, most_returns}

-- ---- the names of a list with commas

two_in_front : (a v : Word) (pss : List (List Word)) → each target_of (in_front a (in_front v pss)) ≡ None
two_in_front (Name x) v [] = refl
two_in_front (Name x) v (p ∷ ps) = refl
two_in_front (Number n) v [] = refl
two_in_front (Number n) v (p ∷ ps) = refl
two_in_front (Sign m) v [] = refl
two_in_front (Sign m) v (p ∷ ps) = refl

number_in_front : (n : List ℕ) (pss : List (List Word)) → each target_of (in_front (Number n) pss) ≡ None
number_in_front n [] = refl
number_in_front n (p ∷ ps) = refl

sign_in_front : (w : Word) (pss : List (List Word)) → target_of (w ∷ []) ≡ None → each target_of (in_front w pss) ≡ None
sign_in_front (Name x) pss e = cc
sign_in_front (Number n) [] e = refl
sign_in_front (Number n) (p ∷ ps) e = refl
sign_in_front (Sign m) [] e = refl
sign_in_front (Sign m) (p ∷ ps) e = refl

none_some : {A B : Type 0} (o : Option A) (x : A) → o ≡ None → o ≡ Some x → B
none_some o x n s = absurd (go (sym n ∙ s))
  where
    go : None ≡ Some x → ⊥
    go e = cc

pub list_names : (ws : List Word) (xs : List (List ℕ)) → list_of ws ≡ Some xs → names_in ws ≡ xs
list_names [] xs e = cc
list_names (Name x ∷ []) xs e = cc
list_names (Name x ∷ Sign Comma ∷ ws) xs e = go (list_of ws) refl e (list_names ws)
  where
    go : (o : Option (List (List ℕ))) → list_of ws ≡ o → option_map (λ ys. x ∷ ys) o ≡ Some xs
        → ((ys : List (List ℕ)) → list_of ws ≡ Some ys → names_in ws ≡ ys) → x ∷ names_in ws ≡ xs
    go None h k f = cc
    go (Some ys) h k f = ap (λ l. x ∷ l) (f ys h) ∙ cc
list_names (Name x ∷ Name y ∷ ws) xs e = none_some (list_of (Name x ∷ Name y ∷ ws)) xs (two_in_front (Name x) (Name y) (parted is_comma ws)) e
list_names (Name x ∷ Number n ∷ ws) xs e = none_some (list_of (Name x ∷ Number n ∷ ws)) xs (two_in_front (Name x) (Number n) (parted is_comma ws)) e
list_names (Name x ∷ Sign m ∷ ws) xs e = none_some (list_of (Name x ∷ Sign m ∷ ws)) xs (two_in_front (Name x) (Sign m) (parted is_comma ws)) e
list_names (Number n ∷ ws) xs e = none_some (list_of (Number n ∷ ws)) xs (number_in_front n (parted is_comma ws)) e
list_names (Sign Comma ∷ ws) xs e = cc
list_names (Sign m ∷ ws) xs e = none_some (list_of (Sign m ∷ ws)) xs (sign_in_front (Sign m) (parted is_comma ws) refl) e

pub params_names : (ws : List Word) (xs : List (List ℕ)) → params_of ws ≡ Some xs → names_in ws ≡ xs
params_names [] xs e = cc
params_names (w ∷ ws) xs e = list_names (w ∷ ws) xs e

-- names that may be declared are the names among their words
pub names_are : (ws : List Word) (xs : List (List ℕ)) → names_of ws ≡ Some xs → names_in ws ≡ xs
names_are ws xs e =
    let known : names_of ws ≡ Some (names_in ws) = names_known ws (ap is_some e) in
    go (sym known ∙ e)
  where
    go : Some (names_in ws) ≡ Some xs → names_in ws ≡ xs
    go h = cc

-- ---- lists with one more

flat_more : {A B : Type 0} (f : A → List B) (ls : List A) (l : A) → flat_map f (ls ++ l ∷ []) ≡ flat_map f ls ++ f l
flat_more f [] l = append-nil (f l)
flat_more f (m ∷ ls) l = ap (λ r. f m ++ r) (flat_more f ls l) ∙ sym (append_assoc (f m) (flat_map f ls) (f l))

pub flat_with : {A B : Type 0} (f : A → List B) (ls : List A) (l : A) (ys : List B) → f l ≡ ys → flat_map f (ls ++ l ∷ []) ≡ flat_map f ls ++ ys
flat_with f ls l ys e = flat_more f ls l ∙ ap (λ r. flat_map f ls ++ r) e

pub flat_same : {A B : Type 0} (f : A → List B) (ls : List A) (l : A) → f l ≡ [] → flat_map f (ls ++ l ∷ []) ≡ flat_map f ls
flat_same f ls l e = flat_with f ls l [] e ∙ append-nil (flat_map f ls)

pub most_more : (ps : List ProcHead) (p : ProcHead) → most_returns (ps ++ p ∷ []) ≡ max (most_returns ps) p.returns
most_more [] p = omega arith
most_more (q ∷ ps) p = let h = most_more ps p in omega (arith, h)

-- ---- what stands first

turned : (x y : List ℕ) (b : Bool) → bytes_eq x y ≡ b → bytes_eq y x ≡ b
turned x y true e = (bytes_eq-Decides y x).1 (sym ((bytes_eq-Decides x y).0 e))
turned x y false e = go (bytes_eq y x) refl
  where
    go : (t : Bool) → bytes_eq y x ≡ t → t ≡ false
    go false h = refl
    go true h = sym ((bytes_eq-Decides x y).1 (sym ((bytes_eq-Decides y x).0 h))) ∙ e

-- Rows by names, where of items with one name the first counts.
module _ {Item Row : Type 0} (named : Item → List ℕ) (row : Item → Row)
  where
    abbrev first : List Item → List ℕ → Option Item
    first items x = find (λ i. bytes_eq x (named i)) items

    first_more : (items : List Item) (y : Item) (x : List ℕ)
        → option_map row (first (items ++ y ∷ []) x)
        ≡ cond (bytes_eq x (named y)) (Some (unwrap_or (option_map row (first items x)) (row y))) (option_map row (first items x))
    first_more [] y x = go (bytes_eq x (named y))
      where
        go : (b : Bool) → option_map row (cond b (Some y) None) ≡ cond b (Some (row y)) None
        go true = refl
        go false = refl
    first_more (i ∷ items) y x = go (bytes_eq x (named i)) (first_more items y x)
      where
        go : (b : Bool)
            → option_map row (first (items ++ y ∷ []) x)
            ≡ cond (bytes_eq x (named y)) (Some (unwrap_or (option_map row (first items x)) (row y))) (option_map row (first items x))
            → option_map row (cond b (Some i) (first (items ++ y ∷ []) x))
            ≡ cond (bytes_eq x (named y)) (Some (unwrap_or (option_map row (cond b (Some i) (first items x))) (row y))) (option_map row (cond b (Some i) (first items x)))
        go true h = here (bytes_eq x (named y))
          where
            here : (t : Bool) → Some (row i) ≡ cond t (Some (row i)) (Some (row i))
            here true = refl
            here false = refl
        go false h = h

    -- a row more, unless one of the name is there
    pub row_more : (old new : List ℕ → Option Row) (items : List Item) (y : Item) (kept : Row)
        → ((x : List ℕ) → old x ≡ option_map row (first items x)) → kept ≡ unwrap_or (old (named y)) (row y)
        → ((x : List ℕ) → new x ≡ cond (bytes_eq (named y) x) (Some kept) (old x))
        → (x : List ℕ) → new x ≡ option_map row (first (items ++ y ∷ []) x)
    row_more old new items y kept was k n x = n x ∙ go (bytes_eq (named y) x) refl ∙ sym (first_more items y x)
      where
        go : (b : Bool) → bytes_eq (named y) x ≡ b
            → cond b (Some kept) (old x)
            ≡ cond (bytes_eq x (named y)) (Some (unwrap_or (option_map row (first items x)) (row y))) (option_map row (first items x))
        go true e =
            let same : named y ≡ x = (bytes_eq-Decides (named y) x).0 e in
            ap Some (k ∙ ap (λ z. unwrap_or (old z) (row y)) same ∙ ap (λ o. unwrap_or o (row y)) (was x))
            ∙ sym (ap (λ t. cond t (Some (unwrap_or (option_map row (first items x)) (row y))) (option_map row (first items x))) (turned (named y) x true e))
        go false e =
            was x
            ∙ sym (ap (λ t. cond t (Some (unwrap_or (option_map row (first items x)) (row y))) (option_map row (first items x))) (turned (named y) x false e))
