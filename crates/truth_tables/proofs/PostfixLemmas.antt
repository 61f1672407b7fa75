-- Lists of parts, each behind its operands.
use Rattle.std.proofs.Common.{◌≡◌, ℕ, ◌-◌, Option, Some, None, List, [], ◌∷◌, ◌++◌, length, reverse, map, refl, ap, sym, ◌∙◌, arith}
use Rattle.std.specs.Prelude.{slice_get}
use Rattle.std.proofs.lemmas.List.{reverse-append}
use Rattle.truth_tables.specs.Formulas.{Formula, Opposite, Binary, Ternary, formula, renamed}
use Rattle.truth_tables.specs.Postfix.{taken, built_onto, built, first, leaf, newest_leaf, part_renamed}
use Rattle.truth_tables.specs.private.Trees.{formulas_of}
use Rattle.truth_tables.specs.declared.expr.Expr.{Expr}
use Rattle.truth_tables.specs.declared.part.Part.{Part}
use Rattle.truth_tables.specs.declared.part.Part.TheVariants.{Const, Var, Not, Two, Three}

onto_more : (fs : List (Formula ℕ)) (ps : List Part) (p : Part) → built_onto fs (ps ++ p ∷ []) ≡ taken p (built_onto fs ps)
onto_more fs [] p = refl
onto_more fs (q ∷ ps) p = onto_more (taken q fs) ps p

pub part_more : (old now : List Part) (p : Part) → now ≡ old ++ p ∷ [] → built now ≡ taken p (built old)
part_more old now p h = ap built h ∙ onto_more [] old p

-- ---- the last part

leaf_taken : (p : Part) (fs : List (Formula ℕ)) → newest_leaf (taken p fs) ≡ leaf p
leaf_taken (Const b) fs = refl
leaf_taken (Var k) fs = refl
leaf_taken Not [] = refl
leaf_taken Not (f ∷ fs) = refl
leaf_taken (Two t) [] = refl
leaf_taken (Two t) (g ∷ []) = refl
leaf_taken (Two t) (g ∷ f ∷ fs) = refl
leaf_taken (Three t) [] = refl
leaf_taken (Three t) (h ∷ []) = refl
leaf_taken (Three t) (h ∷ g ∷ []) = refl
leaf_taken (Three t) (h ∷ g ∷ f ∷ fs) = refl

abbrev last_of : Option Part → Option Part
last_of (Some p) = leaf p
last_of None = None

leaf_onto : (fs : List (Formula ℕ)) (p : Part) (ps : List Part) → newest_leaf (built_onto fs (p ∷ ps)) ≡ last_of (slice_get (p ∷ ps) (length ps))
leaf_onto fs p [] = leaf_taken p fs
leaf_onto fs p (q ∷ ps) = leaf_onto (taken p fs) q ps

-- of no parts, and of parts with this one at their end
pub no_leaf : (ps : List Part) → None ≡ slice_get ps (length ps - 1) → None ≡ newest_leaf (built ps)
no_leaf [] h = refl
no_leaf (p ∷ ps) h = sym (leaf_onto [] p ps ∙ ap last_of (ap (slice_get (p ∷ ps)) (omega arith) ∙ sym h))

pub leaf_of_last : (ps : List Part) (p : Part) → Some p ≡ slice_get ps (length ps - 1) → leaf p ≡ newest_leaf (built ps)
leaf_of_last [] p h = let f : Some p ≡ None = h in cc
leaf_of_last (q ∷ ps) p h = sym (leaf_onto [] q ps ∙ ap last_of (ap (slice_get (q ∷ ps)) (omega arith) ∙ sym h))

-- ---- other numbers

taken_renamed : (r : ℕ → ℕ) (p : Part) (fs : List (Formula ℕ)) → taken (part_renamed r p) (map (renamed r) fs) ≡ map (renamed r) (taken p fs)
taken_renamed r (Const b) fs = refl
taken_renamed r (Var k) fs = refl
taken_renamed r Not [] = refl
taken_renamed r Not (f ∷ fs) = refl
taken_renamed r (Two t) [] = refl
taken_renamed r (Two t) (g ∷ []) = refl
taken_renamed r (Two t) (g ∷ f ∷ fs) = refl
taken_renamed r (Three t) [] = refl
taken_renamed r (Three t) (h ∷ []) = refl
taken_renamed r (Three t) (h ∷ g ∷ []) = refl
taken_renamed r (Three t) (h ∷ g ∷ f ∷ fs) = refl

onto_renamed : (r : ℕ → ℕ) (fs : List (Formula ℕ)) (ps : List Part) → built_onto (map (renamed r) fs) (map (part_renamed r) ps) ≡ map (renamed r) (built_onto fs ps)
onto_renamed r fs [] = refl
onto_renamed r fs (p ∷ ps) = ap (λ x. built_onto x (map (part_renamed r) ps)) (taken_renamed r p fs) ∙ onto_renamed r (taken p fs) ps

pub built_renamed : (r : ℕ → ℕ) (ps : List Part) → built (map (part_renamed r) ps) ≡ map (renamed r) (built ps)
built_renamed r ps = onto_renamed r [] ps

-- ---- trees on a stack

pub newest : (old rest : List Expr) (e : Expr) → old ≡ rest ++ e ∷ [] → formulas_of old ≡ formula e ∷ formulas_of rest
newest old rest e h = ap (map formula) (ap reverse h ∙ reverse-append rest (e ∷ []))

pub none_taken : (old : List Expr) → old ≡ [] → formulas_of old ≡ taken Not (formulas_of old)
none_taken old h = ap formulas_of h ∙ sym (ap (λ x. taken Not (formulas_of x)) h)

pub none_taken_two : (old : List Expr) (t : ℕ) → old ≡ [] → formulas_of old ≡ taken (Two t) (formulas_of old)
none_taken_two old t h = ap formulas_of h ∙ sym (ap (λ x. taken (Two t) (formulas_of x)) h)

pub none_taken_three : (old : List Expr) (t : ℕ) → old ≡ [] → formulas_of old ≡ taken (Three t) (formulas_of old)
none_taken_three old t h = ap formulas_of h ∙ sym (ap (λ x. taken (Three t) (formulas_of x)) h)

pub one_taken : (old rest now : List Expr) (e d : Expr) → old ≡ rest ++ e ∷ [] → now ≡ rest ++ d ∷ [] → formula d ≡ Opposite (formula e) → formulas_of now ≡ taken Not (formulas_of old)
one_taken old rest now e d h g is = newest now rest d g ∙ ap (λ f. f ∷ formulas_of rest) is ∙ sym (ap (taken Not) (newest old rest e h))

pub two_taken : (old more rest now : List Expr) (f e d : Expr) (t : ℕ) → old ≡ more ++ e ∷ [] → more ≡ rest ++ f ∷ [] → now ≡ rest ++ d ∷ [] → formula d ≡ Binary t (formula f) (formula e)
    → formulas_of now ≡ taken (Two t) (formulas_of old)
two_taken old more rest now f e d t h i g is =
    newest now rest d g ∙ ap (λ x. x ∷ formulas_of rest) is
    ∙ sym (ap (taken (Two t)) (newest old more e h ∙ ap (λ x. formula e ∷ x) (newest more rest f i)))

pub three_taken : (old more most rest now : List Expr) (g f e d : Expr) (t : ℕ) → old ≡ more ++ e ∷ [] → more ≡ most ++ f ∷ [] → most ≡ rest ++ g ∷ [] → now ≡ rest ++ d ∷ []
    → formula d ≡ Ternary t (formula g) (formula f) (formula e) → formulas_of now ≡ taken (Three t) (formulas_of old)
three_taken old more most rest now g f e d t h i j k is =
    newest now rest d k ∙ ap (λ x. x ∷ formulas_of rest) is
    ∙ sym (ap (taken (Three t)) (newest old more e h ∙ ap (λ x. formula e ∷ x) (newest more most f i ∙ ap (λ x. formula f ∷ x) (newest most rest g j))))

-- an operator that lacks operands
pub two_missing : (old more : List Expr) (e : Expr) (t : ℕ) → old ≡ more ++ e ∷ [] → more ≡ [] → formulas_of more ≡ taken (Two t) (formulas_of old)
two_missing old more e t h i = ap formulas_of i ∙ sym (ap (taken (Two t)) (newest old more e h ∙ ap (λ x. formula e ∷ formulas_of x) i))

pub three_missing : (old more : List Expr) (e : Expr) (t : ℕ) → old ≡ more ++ e ∷ [] → more ≡ [] → formulas_of more ≡ taken (Three t) (formulas_of old)
three_missing old more e t h i = ap formulas_of i ∙ sym (ap (taken (Three t)) (newest old more e h ∙ ap (λ x. formula e ∷ formulas_of x) i))

pub three_missing_one : (old more most : List Expr) (f e : Expr) (t : ℕ) → old ≡ more ++ e ∷ [] → more ≡ most ++ f ∷ [] → most ≡ [] → formulas_of most ≡ taken (Three t) (formulas_of old)
three_missing_one old more most f e t h i j =
    ap formulas_of j
    ∙ sym (ap (taken (Three t)) (newest old more e h ∙ ap (λ x. formula e ∷ x) (newest more most f i ∙ ap (λ x. formula f ∷ formulas_of x) j)))

-- ---- the loops

pub all_renamed : (r : ℕ → ℕ) (old now : List Part) → now ≡ map (part_renamed r) old → built now ≡ map (renamed r) (built old)
all_renamed r old now h = ap built h ∙ built_renamed r old

pub first_popped : (fs : List (Formula ℕ)) (old rest : List Expr) (e : Expr) → formulas_of old ≡ fs → old ≡ rest ++ e ∷ [] → Some (formula e) ≡ first fs
first_popped fs old rest e is h = sym (ap first (sym is ∙ newest old rest e h))

pub none_popped : (fs : List (Formula ℕ)) (old : List Expr) → formulas_of old ≡ fs → old ≡ [] → None ≡ first fs
none_popped fs old is h = sym (ap first (sym is ∙ ap formulas_of h))
