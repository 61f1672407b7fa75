-- Pieces of words, read one by one.
use Rattle.std.proofs.Common.{◌∙◌, ◌≡◌, Bool, true, false, cond, List, [], ◌∷◌, ◌++◌, Option, None, Some, refl, sym, ap, append_assoc}
use Rattle.std.specs.Prelude.{option_map}
use Rattle.wpds_port.specs.declared.Word.{Word}
use Rattle.document_forms.specs.Lines.{in_front}
use Rattle.document_forms.specs.Words.{before, behind, parted, each}

-- ---- what a function gives of each item

pub each_some : {A B : Type 0} (f : A → Option B) (x : A) (xs : List A) (y : B) → f x ≡ Some y → each f (x ∷ xs) ≡ option_map (λ ys. y ∷ ys) (each f xs)
each_some f x xs y e = rw (e, each) refl

pub each_none : {A B : Type 0} (f : A → Option B) (x : A) (xs : List A) → f x ≡ None → each f (x ∷ xs) ≡ None
each_none f x xs e = rw (e, each) refl

-- what is read of the others stands behind what was read
pub read_more : {A B : Type 0} (c : List A → B) (done : List A) (x : A) (o : Option (List A)) → option_map (λ more. c (done ++ more)) (option_map (λ ys. x ∷ ys) o) ≡ option_map (λ more. c ((done ++ x ∷ []) ++ more)) o
read_more c done x None = refl
read_more c done x (Some ys) = ap (λ l. Some (c l)) (sym (append_assoc done (x ∷ []) ys))

-- nothing was read yet
pub read_none : {A : Type 0} (o : Option (List A)) → o ≡ option_map (λ more. [] ++ more) o
read_none None = refl
read_none (Some xs) = refl

-- ---- the first piece, and the others

abbrev pub others : (Word → Bool) → Option (List Word) → List (List Word)
others test None = []
others test (Some ws) = parted test ws

pub parted_cut : (test : Word → Bool) (ws : List Word) → parted test ws ≡ before test ws ∷ others test (behind test ws)
parted_cut test [] = refl
parted_cut test (w ∷ ws) = go (test w) (parted_cut test ws)
  where
    go :
        (t : Bool) → parted test ws ≡ before test ws ∷ others test (behind test ws)
        → cond t ([] ∷ parted test ws) (in_front w (parted test ws))
        ≡ cond t [] (w ∷ before test ws) ∷ others test (cond t (Some ws) (behind test ws))
    go true e = refl
    go false e = ap (in_front w) e

-- ---- pieces that were read, and one more

pub piece_more : {A B C : Type 0} (f : A → Option B) (c : List B → C) (all : Option C) (done : List B) (old : List A) (p : A) (ps : List A) (y : B)
    → all ≡ option_map (λ more. c (done ++ more)) (each f old) → old ≡ p ∷ ps → f p ≡ Some y
    → all ≡ option_map (λ more. c ((done ++ y ∷ []) ++ more)) (each f ps)
piece_more f c all done old p ps y e o k =
    e
    ∙ ap (λ l. option_map (λ more. c (done ++ more)) (each f l)) o
    ∙ ap (option_map (λ more. c (done ++ more))) (each_some f p ps y k)
    ∙ read_more c done y (each f ps)
