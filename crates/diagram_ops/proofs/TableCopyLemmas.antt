-- The places of references that are copied out of a table.
use Rattle.std.proofs.Common.{◌≡◌, ℕ, ◌+◌, ◌<◌, Bool, true, false, List, [], ◌∷◌, ◌++◌, length, refl, sym, ap, ◌∙◌, inl, inr, arith}
use Rattle.std.specs.Prelude.{Option, None, Some, nat_eq, cond, option_map}
use Rattle.std.proofs.lemmas.Bool.{cases_Bool, eqb-true, eq-eqb, false_from_ne_true}
use Rattle.std.specs.Cmp.{unsigned_tied}
use Rattle.std.specs.Ordering.{nat_cmp}
use Rattle.key_rows.specs.Members.{has, number_of}
use Rattle.diagram_store.specs.declared.branch.Branch.{Branch}
use Rattle.diagram_store.specs.Nodes.{IsReduced, HasVariablesBelow}
use Rattle.diagram_store.specs.Meaning.{value_at}
use Rattle.diagram_store.proofs.CallerLemmas.{value_agrees}
use Rattle.diagram_ops.specs.declared.table_copying.Copied.{Copied}
use Rattle.diagram_ops.specs.private.TableCopying.{reference_of, copied_at}
use Rattle.diagram_ops.proofs.MadeLemmas.{last_pushed}

even_so : (a b : ℕ) → nat_eq a b ≡ nat_eq b a
even_so a b = elim (cases_Bool (nat_eq b a)) [
  | inl e ↦ eq-eqb a b (sym (eqb-true b a e)) ∙ sym e
  | inr e ↦ false_from_ne_true (nat_eq a b) (λ f. let g : true ≡ false = sym (eq-eqb b a (sym (eqb-true a b f))) ∙ e in cc) ∙ sym e
]

by_place : (b : Bool) (n : ℕ) (o : Option ℕ) → option_map (λ k. k + 2) (cond b (Some n) o) ≡ cond b (Some (n + 2)) (option_map (λ k. k + 2) o)
by_place true n o = refl
by_place false n o = refl

-- one more reference is copied
pub copied_pushed : (copied : List Copied) (r p : ℕ) → p ≡ length copied + 2 → (k : ℕ)
    → copied_at (copied ++ record { reference = r } ∷ []) k ≡ cond (nat_eq r k) (Some p) (copied_at copied k)
copied_pushed copied r p e k =
    let c : Copied = record { reference = r } in
    ap (option_map (λ j. j + 2)) (last_pushed (has nat_cmp reference_of k) copied c)
    ∙ by_place (has nat_cmp reference_of k c) (length copied) (number_of nat_cmp reference_of k copied)
    ∙ ap (λ b. cond b (Some (length copied + 2)) (copied_at copied k)) (unsigned_tied k r ∙ even_so k r)
    ∙ ap (λ q. cond (nat_eq r k) (Some q) (copied_at copied k)) (sym e)

pub none_copied : (k : ℕ) → copied_at [] k ≡ None
none_copied k = refl

-- a value reads no bit from a limit on where no variable is there
pub reads_below_at : (nodes : List Branch) → IsReduced nodes → (limit r : ℕ) → HasVariablesBelow limit nodes → (bits other : ℕ → Bool)
    → ((k : ℕ) → k < limit → bits k ≡ other k) → value_at nodes r bits ≡ value_at nodes r other
reads_below_at nodes all limit r below bits other same =
    value_agrees nodes all bits other (λ s. s ≡ s) (λ s n e i. (same n.var (below s n e), refl, refl)) r r (omega arith) refl
