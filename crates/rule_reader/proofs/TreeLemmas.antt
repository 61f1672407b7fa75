-- Expressions over items.
use Rattle.std.proofs.Common.{◌≡◌, ◌↔◌, ℕ, zero, suc, ◌<◌, ◌≤◌, Bool, true, false, not, ◌&&◌, ◌||◌, cond, List, [], ◌∷◌, map, length, Option, None, Some, refl, sym, ap, ap₂, ◌∙◌, arith}
use Rattle.std.specs.Prelude.{nat_lt, option_map, unwrap_or, slice_index_or}
use Rattle.std.specs.List.{list_all}
use Rattle.std.proofs.lemmas.Bool.{and_parts, or_parts, not-false, not-true, le-ltb, ltb-true}
use Rattle.wpds_base.specs.Limits.{most_depth}
use Rattle.wpds_port.specs.declared.Word.{Word}
use Rattle.wpds_port.specs.declared.Mark.TheVariants.{Star}
use Rattle.wpds_port.specs.declared.Word.TheVariants.{Name, Number, Mark as Sign}
use Rattle.wpds_port.specs.Tokens.{is_lawful_word}
use Rattle.truth_tables.specs.Formulas.{Formula, Constant, Variable, Opposite, Binary, Ternary, is_over, renamed}
use Rattle.truth_tables.specs.Grammar.{Tree, Writes, IsExpression, depth, has_large_table, tree_variables, formula_of}
use Rattle.truth_tables.specs.Stacks.{tree_of}
use Rattle.document_forms.specs.Weights.{TreeValue, value_of}
use Rattle.truth_tables.specs.Texts.{named}
use Rattle.document_forms.specs.Names.{is_among, has_unknown, number_in}
use Rattle.document_forms.specs.Documents.{over_numbers, expression_value}
use Rattle.rule_reader.specs.declared.weights.WeightFaults.{WeightFaults}
use Rattle.rule_reader.specs.TreeReads.{is_sound}
use Rattle.rule_reader.specs.TreeReads.{variables_among, numbers_of, number_at, is_too_deep, is_star, HasFaults}

-- ---- numbers in place of names

-- known names have their numbers
known_numbers : (items xs : List (List ℕ)) → has_unknown items xs ≡ false → numbers_of items xs ≡ map (number_in items) xs
known_numbers items [] h = refl
known_numbers items (x ∷ xs) h =
    let p = or_parts (not (is_among items x)) (has_unknown items xs) h in
    let known : is_among items x ≡ true = not-false (is_among items x) p.0 in
    ap₂ (λ n ns. n ∷ ns) (ap (λ b. unwrap_or (cond b (Some (number_in items x)) None) 0) known) (known_numbers items xs p.1)

-- what stands at a place of names and of their numbers
number_there : (g : List ℕ → ℕ) (xs : List (List ℕ)) (k : ℕ) → k < length xs → g (slice_index_or xs k []) ≡ slice_index_or (map g xs) k 0
number_there g [] k h = absurd (omega arith)
number_there g (x ∷ xs) zero h = refl
number_there g (x ∷ xs) (suc k) h = number_there g xs k (omega arith)

-- A formula over places among names, with the numbers of these names.
module _ (items xs : List (List ℕ))
  where
    abbrev at_place : ℕ → ℕ
    at_place k = slice_index_or (map (number_in items) xs) k 0

    over_places : (f : Formula ℕ) → is_over (length xs) f ≡ true → over_numbers items (named xs f) ≡ renamed at_place f
    over_places (Constant b) h = refl
    over_places (Variable k) h = ap Variable (number_there (number_in items) xs k (ltb-true k (length xs) h))
    over_places (Opposite f) h = ap Opposite (over_places f h)
    over_places (Binary t f g) h =
        let p = and_parts (nat_lt t 16 && is_over (length xs) f) (is_over (length xs) g) h in
        let q = and_parts (nat_lt t 16) (is_over (length xs) f) p.0 in
        ap₂ (Binary t) (over_places f q.1) (over_places g p.1)
    over_places (Ternary t f g i) h =
        let p = and_parts (is_over (length xs) f && is_over (length xs) g) (is_over (length xs) i) h in
        let q = and_parts (is_over (length xs) f) (is_over (length xs) g) p.0 in
        ap (λ x. Ternary t x (over_numbers items (named xs g)) (over_numbers items (named xs i))) (over_places f q.0)
        ∙ ap₂ (Ternary t (renamed at_place f)) (over_places g q.1) (over_places i p.1)

pub numbers_in_place : (items : List (List ℕ)) (ws : List Word) (e : Tree) (f : Formula ℕ) → tree_variables e ≡ variables_among ws
    → has_unknown items (tree_variables e) ≡ false → named (tree_variables e) f ≡ formula_of e → is_over (length (tree_variables e)) f ≡ true
    → renamed (number_at items ws) f ≡ expression_value items e
numbers_in_place items ws e f same known names over =
    ap (λ xs. renamed (λ k. slice_index_or (numbers_of items xs) k 0) f) (sym same)
    ∙ ap (λ ns. renamed (λ k. slice_index_or ns k 0) f) (known_numbers items (tree_variables e) known)
    ∙ sym (over_places items (tree_variables e) f over)
    ∙ ap (over_numbers items) names

-- lawful words that no tree writes are no tree
pub no_tree : ((ws : List Word) (e : Tree) → (tree_of ws ≡ Some e) ↔ Writes e ws) → (ws : List Word) → list_all is_lawful_word ws ≡ true → ((e : Tree) → IsExpression ws e → ⊥) → tree_of ws ≡ None
no_tree one ws lawful none = go (tree_of ws) refl
  where
    go : (o : Option Tree) → tree_of ws ≡ o → o ≡ None
    go None e = refl
    go (Some t) e = absurd (none t (lawful, (one ws t).0 e))

pub sound_parts : (f : WeightFaults) → is_sound f ≡ true → (f.unknown ≡ false) × (f.unlawful ≡ false) × (f.deep ≡ false)
sound_parts f h =
    let a = or_parts f.unknown (f.unlawful || f.deep) (not-true (f.unknown || (f.unlawful || f.deep)) h) in
    let b = or_parts f.unlawful f.deep a.1 in
    (a.0, b.0, b.1)

pub shallow : (e : Tree) → depth e ≤ most_depth → false ≡ is_too_deep e
shallow e h = sym (le-ltb most_depth (depth e) h)

-- ---- values

or_none : (b : Bool) → b ≡ (b || false)
or_none true = refl
or_none false = refl

pub no_star : (ws : List Word) → is_star ws ≡ false → value_of ws ≡ option_map TreeValue (tree_of ws)
no_star [] h = refl
no_star (Sign Star ∷ []) h = cc
no_star (w ∷ []) h = refl
no_star (Name x ∷ v ∷ ws) h = refl
no_star (Number n ∷ v ∷ ws) h = refl
no_star (Sign Star ∷ v ∷ ws) h = refl
no_star (Sign m ∷ v ∷ ws) h = refl

pub one_tree_faults : (items : List (List ℕ)) (e : Tree) (f : WeightFaults) → HasFaults (has_unknown items (tree_variables e)) (has_large_table e) (is_too_deep e) f
    → HasFaults (has_unknown items (tree_variables e)) (has_large_table e || false) (is_too_deep e || false) f
one_tree_faults items e f h = record {
  unknown = h.unknown;
  unlawful = h.unlawful ∙ or_none (has_large_table e);
  deep = λ l. h.deep (or_none (has_large_table e) ∙ l) ∙ or_none (is_too_deep e);
}
