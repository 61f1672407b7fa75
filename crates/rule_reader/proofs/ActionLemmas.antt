-- Actions that were read, and one more.
use Rattle.std.proofs.Common.{◌≡◌, ℕ, ◌<◌, ◌≤◌, Bool, true, false, not, ◌||◌, List, [], ◌∷◌, ◌++◌, length, get_or, map, min, Option, Some, refl, sym, ap, ap₂, ◌∙◌, arith}
use Rattle.std.specs.Prelude.{zip, flat_map}
use Rattle.std.specs.List.{list_any}
use Rattle.std.proofs.lemmas.Bool.{or_parts, or_from}
use Rattle.std.proofs.lemmas.List.{map-append}
use Rattle.std.proofs.Math.Path.{fun_ext}
use Rattle.wpds_port.specs.declared.Mark.TheVariants.{Becomes}
use Rattle.wpds_port.specs.declared.Word.{Word}
use Rattle.wpds_port.specs.declared.Word.TheVariants.{Name, Number, Mark as Sign}
use Rattle.wpds_port.specs.Words.{same_word}
use Rattle.truth_tables.specs.Grammar.{has_large_table}
use Rattle.document_forms.specs.Names.{number_in, has_unknown, is_among}
use Rattle.document_forms.specs.Words.{is_comma, is_becomes, before, behind, parted, parted_outside, each, ◌>>=◌}
use Rattle.document_forms.specs.Weights.{ValueForm, ActionForm, AssignForm, target_of, value_of as value_form, assign_of}
use Rattle.document_forms.specs.Kinds.{value_names, value_trees}
use Rattle.document_forms.specs.Documents.{value_of, assignment_of}
use Rattle.rule_reader.specs.declared.weights.WeightFaults.{WeightFaults}
use Rattle.rule_reader.specs.TreeReads.{either}
use Rattle.rule_reader.specs.TreeReads.{is_sound}
use Rattle.rule_reader.specs.TreeReads.{HasFaults, is_too_deep}
use Rattle.rule_reader.specs.private.ActionReads.{sides_of, assigned}
use Rattle.std.proofs.lemmas.List.Folds.{list_any-append}
use Rattle.rule_reader.proofs.FormLemmas.{flat_map_push}
use Rattle.rule_reader.proofs.TreeLemmas.{sound_parts}

-- ---- faults of two parts

pub either_faults : (u v l m d e : Bool) (f g : WeightFaults) → HasFaults u l d f → HasFaults v m e g → HasFaults (u || v) (l || m) (d || e) (either f g)
either_faults u v l m d e f g a b = record {
  unknown = ap₂ (λ x y. x || y) a.unknown b.unknown;
  unlawful = ap₂ (λ x y. x || y) a.unlawful b.unlawful;
  deep = λ h. let k = or_parts l m h in ap₂ (λ x y. x || y) (a.deep k.0) (b.deep k.1);
}

-- the same faults, told otherwise
pub told_as : (u v l m d e : Bool) (f : WeightFaults) → u ≡ v → l ≡ m → d ≡ e → HasFaults u l d f → HasFaults v m e f
told_as u v l m d e f p q r h = record { unknown = h.unknown ∙ p; unlawful = h.unlawful ∙ q; deep = λ k. h.deep (q ∙ k) ∙ r }

pub sound_both : (f g : WeightFaults) → is_sound (either f g) ≡ true → (is_sound f ≡ true) × (is_sound g ≡ true)
sound_both f g h =
    let p = sound_parts (either f g) h in
    let u = or_parts f.unknown g.unknown p.0 in
    let l = or_parts f.unlawful g.unlawful p.1 in
    let d = or_parts f.deep g.deep p.2 in
    (sound f u.0 l.0 d.0, sound g u.1 l.1 d.1)
  where
    sound : (f : WeightFaults) → f.unknown ≡ false → f.unlawful ≡ false → f.deep ≡ false → is_sound f ≡ true
    sound f u l d = ap not (or_from f.unknown (f.unlawful || f.deep) u (or_from f.unlawful f.deep l d))

any_more : {A X : Type 0} (test : A → Bool) (f : X → List A) (xs : List X) (x : X) → (list_any test (flat_map f xs) || list_any test (f x)) ≡ list_any test (flat_map f (xs ++ x ∷ []))
any_more test f xs x = sym (ap (list_any test) (flat_map_push f xs x) ∙ list_any-append test (flat_map f xs) (f x))

-- ---- values

pub values_faults : (items : List (List ℕ)) (vs : List ValueForm) (v : ValueForm) (f g : WeightFaults)
    → HasFaults (has_unknown items (flat_map value_names vs)) (list_any has_large_table (flat_map value_trees vs)) (list_any is_too_deep (flat_map value_trees vs)) f
    → HasFaults (has_unknown items (value_names v)) (list_any has_large_table (value_trees v)) (list_any is_too_deep (value_trees v)) g
    → HasFaults (has_unknown items (flat_map value_names (vs ++ v ∷ []))) (list_any has_large_table (flat_map value_trees (vs ++ v ∷ []))) (list_any is_too_deep (flat_map value_trees (vs ++ v ∷ []))) (either f g)
values_faults items vs v f g a b =
    told_as _ _ _ _ _ _ (either f g)
    (any_more (λ x. not (is_among items x)) value_names vs v)
    (any_more has_large_table value_trees vs v)
    (any_more is_too_deep value_trees vs v)
    (either_faults _ _ _ _ _ _ f g a b)

zip_none : (ts : List ℕ) → zip {X = ValueForm} ts [] ≡ []
zip_none [] = refl
zip_none (t ∷ ts) = refl

zip_more : (ts : List ℕ) (vs : List ValueForm) (v : ValueForm) → length vs < length ts → zip ts (vs ++ v ∷ []) ≡ zip ts vs ++ (get_or ts (length vs) 0, v) ∷ []
zip_more [] vs v h = absurd (omega arith)
zip_more (t ∷ ts) [] v h = ap (λ l. (t, v) ∷ l) (zip_none ts)
zip_more (t ∷ ts) (w ∷ vs) v h = ap (λ l. (t, w) ∷ l) (zip_more ts vs v (omega arith))

zip_full : (ts : List ℕ) (vs : List ValueForm) (v : ValueForm) → length ts ≤ length vs → zip ts (vs ++ v ∷ []) ≡ zip ts vs
zip_full [] vs v h = refl
zip_full (t ∷ ts) [] v h = absurd (omega arith)
zip_full (t ∷ ts) (w ∷ vs) v h = ap (λ l. (t, w) ∷ l) (zip_full ts vs v (omega arith))

pub assigned_more : (items : List (List ℕ)) (ts : List ℕ) (vs : List ValueForm) (v : ValueForm) → length vs < length ts
    → map (assigned items) (zip ts (vs ++ v ∷ [])) ≡ map (assigned items) (zip ts vs) ++ record { variable = get_or ts (length vs) 0; value = value_of items v } ∷ []
assigned_more items ts vs v h =
    ap (map (assigned items)) (zip_more ts vs v h) ∙ map-append (assigned items) (zip ts vs) ((get_or ts (length vs) 0, v) ∷ [])

pub assigned_full : (items : List (List ℕ)) (ts : List ℕ) (vs : List ValueForm) (v : ValueForm) → length ts ≤ length vs
    → map (assigned items) (zip ts (vs ++ v ∷ [])) ≡ map (assigned items) (zip ts vs)
assigned_full items ts vs v h = ap (map (assigned items)) (zip_full ts vs v h)

-- the targets' names in place of their numbers
pub by_names : (items xs : List (List ℕ)) (vs : List ValueForm) → map (assigned items) (zip (map (number_in items) xs) vs) ≡ map (assignment_of items) (zip xs vs)
by_names items [] vs = refl
by_names items (x ∷ xs) [] = refl
by_names items (x ∷ xs) (v ∷ vs) = ap (λ l. record { variable = number_in items x; value = value_of items v } ∷ l) (by_names items xs vs)

-- how many targets have a value so far, where one more has

pub count_below : (t d s : ℕ) → s ≡ min t d → s < t → (d < t) × (s ≡ d)
count_below t d s e h = (omega arith, omega arith)

pub count_full : (t d s : ℕ) → s ≡ min t d → t ≤ s → t ≤ d
count_full t d s e h = omega arith

pub no_zip : (items : List (List ℕ)) (ts : List ℕ) → map (assigned items) (zip ts []) ≡ []
no_zip items ts = ap (map (assigned items)) (zip_none ts)

-- ---- the parts of an action

pub becomes_test : same_word (Sign Becomes) ≡ is_becomes
becomes_test = fun_ext go
  where
    go : (w : Word) → same_word (Sign Becomes) w ≡ is_becomes w
    go (Name x) = refl
    go (Number n) = refl
    go (Sign Becomes) = refl
    go (Sign m) = refl

abbrev cut_in_two : List Word → Option (List Word) → Option ActionForm
cut_in_two front back =
    each target_of (parted is_comma front) >>= λ targets.
    back >>= λ text.
    each value_form (parted_outside 0 is_comma text) >>= λ values. Some (AssignForm targets values)

pub both_sides : (ws front back : List Word)
    → front ≡ before (same_word (Sign Becomes)) ws → Some back ≡ behind (same_word (Sign Becomes)) ws
    → assign_of ws ≡ sides_of front back
both_sides ws front back f b =
    sym (ap (λ test. cut_in_two (before test ws) (behind test ws)) becomes_test) ∙ sym (ap₂ cut_in_two f b)

pub sides_read : (front back : List Word) (xs : List (List ℕ)) (vs : List ValueForm)
    → each target_of (parted is_comma front) ≡ Some xs → each value_form (parted_outside 0 is_comma back) ≡ Some vs
    → sides_of front back ≡ Some (AssignForm xs vs)
sides_read front back xs vs t v =
    ap (λ o. o >>= λ targets. each value_form (parted_outside 0 is_comma back) >>= λ values. Some (AssignForm targets values)) t
    ∙ ap (λ o. o >>= λ values. Some (AssignForm xs values)) v
