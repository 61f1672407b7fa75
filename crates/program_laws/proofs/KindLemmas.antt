-- A line that is accepted has none of the conditions of its form.
use Rattle.std.proofs.Common.{◌≡◌, ℕ, Bool, true, false, List, [], ◌∷◌, ◌++◌, None, Option, refl}
use Rattle.std.specs.Prelude.{not, ◌||◌}
use Rattle.std.specs.List.{list_any}
use Rattle.wpds_base.specs.Faults.{first_fault}
use Rattle.wpds_port.specs.declared.Kind.{Kind}
use Rattle.wpds_port.specs.declared.Kind.TheVariants.{Twice, Unknown, WeightText, Count, Arity, Label}
use Rattle.truth_tables.specs.Grammar.{has_large_table}
use Rattle.document_forms.specs.Names.{has_twice, has_unknown}
use Rattle.document_forms.specs.Kinds.{Conditions}
use Rattle.program_forms.specs.Forms.{StatementForm, Stating}
use Rattle.program_forms.specs.Places.{Stated}
use Rattle.program_forms.specs.Declared.{Whole}
use Rattle.program_forms.specs.Above.{own_names, own_returns, label_names}
use Rattle.program_forms.specs.Kinds.{has_known, targets, variables, trees, is_deep, has_no_end, misfits, leaves, is_past_limits, listed, statement_conditions}

pub is_held : (b : Bool) → not b ≡ false → b ≡ true
is_held true h = refl
is_held false h = cc

pub first_false : (b : Bool) (k : Kind) (cs : Conditions) → first_fault ((b, k) ∷ cs) ≡ None → (b ≡ false) × (first_fault cs ≡ None)
first_false true k cs h = cc
first_false false k cs h = (refl, h)

six_false : (a b c d e f : Bool) → first_fault ((a, Twice) ∷ (b, Unknown) ∷ (c, WeightText) ∷ (d, Count) ∷ (e, Arity) ∷ (f, Label) ∷ []) ≡ None
    → (a ≡ false) × (b ≡ false) × (c ≡ false) × (d ≡ false) × (e ≡ false) × (f ≡ false)
six_false a b c d e f h =
    let k = first_false a Twice ((b, Unknown) ∷ (c, WeightText) ∷ (d, Count) ∷ (e, Arity) ∷ (f, Label) ∷ []) h in
    let l = first_false b Unknown ((c, WeightText) ∷ (d, Count) ∷ (e, Arity) ∷ (f, Label) ∷ []) k.1 in
    let m = first_false c WeightText ((d, Count) ∷ (e, Arity) ∷ (f, Label) ∷ []) l.1 in
    let n = first_false d Count ((e, Arity) ∷ (f, Label) ∷ []) m.1 in
    let o = first_false e Arity ((f, Label) ∷ []) n.1 in
    (k.0, l.0, m.0, n.0, o.0, (first_false f Label [] o.1).0)

pub record IsFine (w : Whole) (above : List Stated) (begun : ℕ) (label : Option (List ℕ)) (s : StatementForm) : Type 0 where
  pub once : (has_known (label_names above) (listed label) || has_twice (targets s)) ≡ false
  pub known : (has_unknown (w.globals ++ own_names above) (variables s) || has_no_end w s) ≡ false
  pub small : list_any has_large_table (trees s) ≡ false
  pub few : (list_any is_deep (trees s) || is_past_limits above (Stating label s)) ≡ false
  pub arity : misfits w (own_returns above) s ≡ false
  pub stays : leaves w begun s ≡ false

pub statement_fine : (w : Whole) (above : List Stated) (begun : ℕ) (label : Option (List ℕ)) (s : StatementForm) → first_fault (statement_conditions w above begun label s) ≡ None → IsFine w above begun label s
statement_fine w above begun label s h =
    let k = six_false (has_known (label_names above) (listed label) || has_twice (targets s)) (has_unknown (w.globals ++ own_names above) (variables s) || has_no_end w s) (list_any has_large_table (trees s))
    (list_any is_deep (trees s) || is_past_limits above (Stating label s)) (misfits w (own_returns above) s) (leaves w begun s) h in
    record { once = k.0; known = k.1; small = k.2; few = k.3; arity = k.4; stays = k.5 }
