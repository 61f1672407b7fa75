-- How a formula is told by its parts in a row, an operator before its operands.
use Rattle.std.specs.Prelude.{◌≡◌, ℕ, Bool, true, false, List, [], ◌∷◌, ◌⊎◌}
use Rattle.std.proofs.Common.{refl, ap, ◌∙◌, inl, inr}
use Rattle.std.specs.Coded.{Coded, code_by, coded_ℕ, coded_bool, coded_list, coded⊎}
use Rattle.truth_tables.specs.Formulas.{Formula, Constant, Variable, Opposite, Binary, Ternary}

-- a constant, a variable, or an operator of one place, of two or of three
abbrev Part : Type 0
Part = Bool ⊎ (ℕ ⊎ (Bool ⊎ (ℕ ⊎ ℕ)))

abbrev parts_before : Formula ℕ → List Part → List Part
parts_before (Constant b) ps = inl b ∷ ps
parts_before (Variable k) ps = inr (inl k) ∷ ps
parts_before (Opposite f) ps = inr (inr (inl true)) ∷ parts_before f ps
parts_before (Binary t f g) ps = inr (inr (inr (inl t))) ∷ parts_before f (parts_before g ps)
parts_before (Ternary t f g h) ps =
    inr (inr (inr (inr t))) ∷ parts_before f (parts_before g (parts_before h ps))

-- a part in front of formulas takes its operands from them
abbrev taken : Part → List (Formula ℕ) → List (Formula ℕ)
taken (inl b) fs = Constant b ∷ fs
taken (inr (inl k)) fs = Variable k ∷ fs
taken (inr (inr (inl b))) (f ∷ fs) = Opposite f ∷ fs
taken (inr (inr (inr (inl t)))) (f ∷ g ∷ fs) = Binary t f g ∷ fs
taken (inr (inr (inr (inr t)))) (f ∷ g ∷ h ∷ fs) = Ternary t f g h ∷ fs
taken _ _ = []

abbrev formulas : List Part → List (Formula ℕ)
formulas [] = []
formulas (p ∷ ps) = taken p (formulas ps)

abbrev parts : Formula ℕ → List Part
parts f = parts_before f []

abbrev first : List (Formula ℕ) → Formula ℕ
first [] = Constant false
first (f ∷ fs) = f

abbrev formula_of_parts : List Part → Formula ℕ
formula_of_parts ps = first (formulas ps)

pub told : (f : Formula ℕ) (ps : List Part) → formulas (parts_before f ps) ≡ f ∷ formulas ps
told (Constant b) ps = refl
told (Variable k) ps = refl
told (Opposite f) ps = ap (taken (inr (inr (inl true)))) (told f ps)
told (Binary t f g) ps =
    ap (taken (inr (inr (inr (inl t)))))
    (told f (parts_before g ps) ∙ ap (λ fs. f ∷ fs) (told g ps))
told (Ternary t f g h) ps =
    ap (taken (inr (inr (inr (inr t)))))
    (told f (parts_before g (parts_before h ps))
    ∙ ap (λ fs. f ∷ fs) (told g (parts_before h ps) ∙ ap (λ fs. g ∷ fs) (told h ps)))

abbrev pub coded_formula : Coded (Formula ℕ)
coded_formula =
    code_by (List Part)
    (coded_list (coded⊎ coded_bool (coded⊎ coded_ℕ (coded⊎ coded_bool (coded⊎ coded_ℕ coded_ℕ)))))
    parts formula_of_parts (λ f. ap first (told f []))
