-- Names that are to stand once each.
use Rattle.std.proofs.Common.{◌≡◌, ℕ, Bool, true, false, not, ◌||◌, cond, List, [], ◌∷◌, ◌++◌, refl, sym, ap, ap₂, ◌∙◌}
use Rattle.std.specs.Prelude.{bytes_eq}
use Rattle.std.specs.List.{list_any}
use Rattle.std.proofs.Math.Bool.{or-false}
use Rattle.std.proofs.lemmas.Bool.Decides.{same_from_decides, Decides-like}
use Rattle.std.proofs.lemmas.List.Recursion.{or_push}
use Rattle.std.proofs.lemmas.Slice.Eq.{bytes_eq-Decides}
use Rattle.document_forms.specs.Names.{is_among, has_twice}

pub any_push : {A : Type 0} (test : A → Bool) (xs : List A) (y : A) → list_any test (xs ++ y ∷ []) ≡ (list_any test xs || test y)
any_push test xs y = or_push (list_any test) test refl (λ x more. refl) xs y

same_backwards : (x y : List ℕ) → bytes_eq x y ≡ bytes_eq y x
same_backwards x y = same_from_decides (bytes_eq x y) (bytes_eq y x) (bytes_eq-Decides x y) (Decides-like (bytes_eq y x) sym sym (bytes_eq-Decides y x))

-- a name more stands twice where it is among those before
pub twice_push : (xs : List (List ℕ)) (y : List ℕ) → has_twice (xs ++ y ∷ []) ≡ (has_twice xs || is_among xs y)
twice_push [] y = refl
twice_push (x ∷ xs) y =
    ap₂ (λ a b. a || b) (any_push (bytes_eq x) xs y) (twice_push xs y)
    ∙ regroup (is_among xs x) (bytes_eq x y) (has_twice xs) (is_among xs y)
    ∙ ap (λ b. (is_among xs x || has_twice xs) || (b || is_among xs y)) (same_backwards x y)
  where
    regroup : (a b c d : Bool) → ((a || b) || (c || d)) ≡ ((a || c) || (b || d))
    regroup true b c d = refl
    regroup false true true d = refl
    regroup false true false d = refl
    regroup false false c d = refl

-- a name that is among them adds none
pub among_again : (xs : List (List ℕ)) (y x : List ℕ) → is_among xs y ≡ true → (is_among xs x || bytes_eq x y) ≡ is_among xs x
among_again xs y x h = go (bytes_eq x y) refl
  where
    go : (t : Bool) → bytes_eq x y ≡ t → (is_among xs x || t) ≡ is_among xs x
    go false e = or-false (is_among xs x)
    go true e = let same : is_among xs x ≡ true = ap (is_among xs) ((bytes_eq-Decides x y).0 e) ∙ h in rw same refl

pub not_twice : (b : Bool) → not (not b) ≡ b
not_twice true = refl
not_twice false = refl

-- what is known with a name more, of a table that may take it
pub seen_more : (seen next names : List (List ℕ)) (name : List ℕ) (added : Bool)
    → ((x : List ℕ) → is_among seen x ≡ is_among names x)
    → added ≡ not (is_among seen name) → next ≡ cond added (seen ++ name ∷ []) seen
    → (x : List ℕ) → is_among next x ≡ is_among (names ++ name ∷ []) x
seen_more seen next names name added same a n x =
    ap (λ l. is_among l x) n
    ∙ go added a
    ∙ ap (λ b. b || bytes_eq x name) (same x)
    ∙ sym (any_push (bytes_eq x) names name)
  where
    go : (t : Bool) → t ≡ not (is_among seen name) → is_among (cond t (seen ++ name ∷ []) seen) x ≡ (is_among seen x || bytes_eq x name)
    go true e = any_push (bytes_eq x) seen name
    go false e = sym (among_again seen name x (sym (not_twice (is_among seen name)) ∙ ap not (sym e)))

pub twice_more : (seen names : List (List ℕ)) (name : List ℕ) (twice added : Bool)
    → ((x : List ℕ) → is_among seen x ≡ is_among names x) → twice ≡ has_twice names
    → added ≡ not (is_among seen name)
    → (twice || not added) ≡ has_twice (names ++ name ∷ [])
twice_more seen names name twice added same t a =
    ap₂ (λ x y. x || y) t (ap not a ∙ not_twice (is_among seen name) ∙ same name) ∙ sym (twice_push names name)
