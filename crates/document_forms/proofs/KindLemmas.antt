-- The conditions of a document's lines stand in the order of their kinds.
use Rattle.std.proofs.Common.{◌≡◌, ◌↔◌, ℕ, true, List, [], ◌∷◌, Option, Some, None, refl}
use Rattle.document_forms.specs.Forms.{LineForm, OfWeights, OfNames, OfRule, OfQuery}
use Rattle.wpds_port.specs.declared.Kind.{Kind}
use Rattle.document_forms.specs.Above.{Above, above_of}
use Rattle.document_forms.specs.Kinds.{Conditions, weights_conditions, conditions}
use Rattle.document_forms.specs.FirstRefusal.{Counted, forms, by_form, conditions_below, line_conditions, end_conditions, kind_below, IsLowest}
use Rattle.document_forms.proofs.LowestLemmas.{rises, lowest_first}

form_rises : (all : ℕ) (a : Above) (f : LineForm) → rises 2 (conditions all a f) ≡ true
form_rises all a (OfWeights w) = refl
form_rises all a (OfNames c xs) = refl
form_rises all a (OfRule r) = refl
form_rises all a (OfQuery p q) = refl

weights_rise : (f : LineForm) → rises 2 (weights_conditions f) ≡ true
weights_rise (OfWeights w) = refl
weights_rise (OfNames c xs) = refl
weights_rise (OfRule r) = refl
weights_rise (OfQuery p q) = refl

by_form_rises :
    (test : LineForm → Conditions) → ((f : LineForm) → rises 2 (test f) ≡ true)
    → (o : Option LineForm) → rises 2 (by_form test o) ≡ true
by_form_rises test h None = refl
by_form_rises test h (Some f) = h f

below_rises :
    (all : ℕ) (above : List Counted) (l : Counted) → rises 2 (conditions_below all above l) ≡ true
below_rises all [] l = refl
below_rises all (h ∷ []) l = by_form_rises weights_conditions weights_rise l.form
below_rises all (h ∷ w ∷ above) l =
    let a = above_of (forms (w ∷ above)) in
    by_form_rises (conditions all a) (form_rises all a) l.form

pub line_rises :
    (all : ℕ) (above : List Counted) (l : Counted) → rises 0 (line_conditions all above l) ≡ true
line_rises all above l = below_rises all above l

pub end_rises : (ls : List Counted) → rises 0 (end_conditions ls) ≡ true
end_rises [] = refl
end_rises (h ∷ ls) = refl

pub lowest_kind :
    (all : ℕ) (above : List Counted) (l : Counted) (k : Kind)
    → (kind_below all above l ≡ Some k) ↔ IsLowest all above l k
lowest_kind all above l k =
    lowest_first (line_conditions all above l) (line_rises all above l) k
