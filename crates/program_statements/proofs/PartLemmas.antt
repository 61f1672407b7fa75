-- Parts of a statement, one more.
use Rattle.std.proofs.Common.{◌≡◌, ℕ, Bool, true, false, not, ◌||◌, cond, List, [], ◌∷◌, ◌++◌, map, Option, None, Some, refl, sym, ap, ap₂, ◌∙◌, append_assoc, append-nil}
use Rattle.std.specs.Prelude.{option_map, unwrap_or, is_none, MatchOption}
use Rattle.std.specs.List.{list_any}
use Rattle.std.proofs.lemmas.List.{map_push}
use Rattle.std.proofs.lemmas.List.Folds.{list_any-append}
use Rattle.wpds_port.specs.declared.Word.{Word}
use Rattle.wpds_port.specs.declared.Word.TheVariants.{Name, Number, Mark as Sign}
use Rattle.document_forms.specs.Words.{name_of, each, each_of_some}
use Rattle.document_forms.specs.Weights.{ValueForm, FreeValue, TreeValue}
use Rattle.document_forms.specs.Documents.{value_of}
use Rattle.document_forms.specs.declared.weight.ValueText.{ValueText}
use Rattle.rule_reader.specs.Names.{begins_with_name}
use Rattle.program_forms.specs.Forms.{some_values_of}
use Rattle.program_forms.specs.Programs.{choice_of}
use Rattle.program_lines.specs.Texts.{targets_said}
use Rattle.program_statements.specs.Parts.{choice_said}

pub choice_known : (names : List (List ℕ)) (v : ValueForm) (value : ValueText) → value ≡ value_of names v → choice_said value ≡ choice_of names v
choice_known names FreeValue value e = ap choice_said e
choice_known names (TreeValue t) value e = ap choice_said e

-- what is read of each of some items is read of the first and of the others
pub each_front : {A B : Type 0} (f : A → Option B) (all : List A) (p : A) (ps : List A) (ys : List B) → each f all ≡ Some ys → all ≡ p ∷ ps
    → (z : B) × (zs : List B) × (f p ≡ Some z) × (each f ps ≡ Some zs) × (ys ≡ z ∷ zs)
each_front {A} {B} f all p ps ys e o = go (f p) (each f ps) refl refl (sym (ap (each f) o) ∙ e)
  where
    go : (a : Option B) (b : Option (List B)) → f p ≡ a → each f ps ≡ b
        → elim a [ None ↦ None | Some y ↦ option_map (λ l. y ∷ l) (each f ps) ] ≡ Some ys
        → (z : B) × (zs : List B) × (f p ≡ Some z) × (each f ps ≡ Some zs) × (ys ≡ z ∷ zs)
    go None b h k n = cc
    go (Some z) None h k n = cc
    go (Some z) (Some zs) h k n = (z, zs, h, k, cc)

pub each_none : {A B : Type 0} (f : A → Option B) (all : List A) (ys : List B) → each f all ≡ Some ys → all ≡ [] → ys ≡ []
each_none f all ys e o = go (sym e ∙ ap (each f) o)
  where
    go : Some ys ≡ Some [] → ys ≡ []
    go h = cc

pub some_each : {A B : Type 0} (f : A → Option B) (all : List A) (ys : List B) → each_of_some f all ≡ Some ys → each f all ≡ Some ys
some_each f [] ys e = cc
some_each f (x ∷ xs) ys e = e

pub no_values : (ws : List Word) (vs : List ValueForm) → some_values_of ws ≡ Some vs → ws ≡ [] → [] ≡ vs
no_values ws vs e o = go (sym (ap some_values_of o) ∙ e)
  where
    go : Some [] ≡ Some vs → [] ≡ vs
    go h = cc

pub no_targets : (o : Option (List Word)) (xs : List (List ℕ)) → targets_said o ≡ Some xs → o ≡ None → [] ≡ xs
no_targets o xs e n = go (sym (ap targets_said n) ∙ e)
  where
    go : Some [] ≡ Some xs → [] ≡ xs
    go h = cc

-- names in a row end where no name is in front
pub names_end : (left : List Word) (xs : List (List ℕ)) → each name_of left ≡ Some xs → begins_with_name left ≡ false → xs ≡ []
names_end [] xs e n = cc
names_end (Name x ∷ ws) xs e n = cc
names_end (Number k ∷ ws) xs e n = cc
names_end (Sign m ∷ ws) xs e n = cc

-- what was read, and one more
pub moved : {A : Type 0} (done : List A) (x : A) (left rest all : List A) → done ++ left ≡ all → left ≡ x ∷ rest → (done ++ x ∷ []) ++ rest ≡ all
moved done x left rest all e o = append_assoc done (x ∷ []) rest ∙ sym (ap (λ l. done ++ l) o) ∙ e

pub all_done : {A : Type 0} (done left all : List A) → done ++ left ≡ all → left ≡ [] → done ≡ all
all_done done left all e o = sym (append-nil done) ∙ sym (ap (λ l. done ++ l) o) ∙ e

pub any_push : {A : Type 0} (test : A → Bool) (xs : List A) (x : A) (b t : Bool) → b ≡ list_any test xs → t ≡ test x → (b || t) ≡ list_any test (xs ++ x ∷ [])
any_push test xs x b t e h =
    ap₂ (λ p q. p || q) e (h ∙ sym (go (test x))) ∙ sym (list_any-append test xs (x ∷ []))
  where
    go : (p : Bool) → (p || false) ≡ p
    go true = refl
    go false = refl

pub any_same : {A : Type 0} (test : A → Bool) (xs : List A) (x : A) (b : Bool) → b ≡ list_any test xs → test x ≡ false → b ≡ list_any test (xs ++ x ∷ [])
any_same test xs x b e h = go b ∙ any_push test xs x b false e (sym h)
  where
    go : (p : Bool) → p ≡ (p || false)
    go true = refl
    go false = refl

pub any_here : {A : Type 0} (test : A → Bool) (xs : List A) (x : A) (b : Bool) → b ≡ list_any test xs → test x ≡ true → true ≡ list_any test (xs ++ x ∷ [])
any_here test xs x b e h = go b ∙ any_push test xs x b true e (sym h)
  where
    go : (p : Bool) → true ≡ (p || true)
    go true = refl
    go false = refl
