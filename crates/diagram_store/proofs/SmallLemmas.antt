-- Constants and literals are canonical, and what equal parts say of values.
use Rattle.std.proofs.Common.{◌≡◌, ℕ, zero, suc, ◌<◌, Bool, true, false, List, [], ◌∷◌, refl, sym, ap₂, ◌∙◌, subst, arith}
use Rattle.std.specs.Prelude.{◌↔◌, IsTrue, nat_eq, cond}
use Rattle.std.proofs.lemmas.Grind.{merely}
use Rattle.std.proofs.lemmas.Option.{same_Some}
use Rattle.diagram_store.specs.declared.branch.Branch.{Branch}
use Rattle.diagram_store.specs.Nodes.{IsReduced, HasVariablesBelow}
use Rattle.diagram_store.specs.Meaning.{value_at}
use Rattle.diagram_store.specs.Canonical.{IsCanonical, constant, leaves}
use Rattle.diagram_store.specs.private.Fitting.{IsFitting}
use Rattle.diagram_store.proofs.NodeLemmas.{no_node}
use Rattle.diagram_store.proofs.ValueLemmas.{value_at_end, value_at_node}
use Rattle.diagram_store.proofs.MeaningLemmas.{Same}
use Rattle.diagram_store.proofs.WalkLemmas.{canonical_is_one}
use Rattle.diagram_store.proofs.FittingLemmas.{AllFit, reduced_from_fitting}

no_nodes_fit : AllFit []
no_nodes_fit k n e = cc

pub constant_canonical : (nodes : List Branch) (r : ℕ) → nodes ≡ [] → r < 2 → IsCanonical r nodes
constant_canonical nodes r e below =
    let P : List Branch → Type 0 = λ l. IsCanonical r l in
    subst P (sym e) (record { reduced = reduced_from_fitting [] no_nodes_fit; post_order = merely (constant below) })

-- a canonical list whose root is a constant has no nodes
pub none_from_constant : (nodes : List Branch) (r : ℕ) → r < 2 → IsCanonical r nodes → nodes ≡ []
none_from_constant nodes r below c = (canonical_is_one nodes [] r r c (constant_canonical [] r refl below) (λ bits. value_at_end nodes r bits (no_node nodes r below) ∙ sym (value_at_end [] r bits (no_node [] r below)))).1

pub constant_value : (nodes : List Branch) (r : ℕ) (b : Bool) (bits : ℕ → Bool) → r < 2 → nat_eq r 1 ≡ b → value_at nodes r bits ≡ b
constant_value nodes r b bits below e = value_at_end nodes r bits (no_node nodes r below) ∙ e

abbrev pub literal_node : ℕ → Branch
literal_node v = record { var = v; low = 0; high = 1 }

literal_fits : (v : ℕ) → AllFit (literal_node v ∷ [])
literal_fits v zero n e =
    let P : Branch → Type 0 = λ m. IsFitting (literal_node v ∷ []) 0 m in
    subst P (same_Some (literal_node v) n e)
    (record {
      low_earlier = omega arith;
      high_earlier = omega arith;
      differs = λ same. absurd (omega arith);
      low_above = λ m f. cc;
      high_above = λ m f. cc;
      fresh = λ j less f. absurd (omega arith);
    })
literal_fits v (suc k) n e = cc

literal_reduced : (v : ℕ) → IsReduced (literal_node v ∷ [])
literal_reduced v = reduced_from_fitting (literal_node v ∷ []) (literal_fits v)

pub literal_canonical : (v : ℕ) → IsCanonical 2 (literal_node v ∷ [])
literal_canonical v = record {
  reduced = literal_reduced v;
  post_order = merely (leaves refl (constant (omega arith)) (constant (omega arith)));
}

bit_again : (b : Bool) → cond b true false ≡ b
bit_again true = refl
bit_again false = refl

single_value : (v : ℕ) (bits : ℕ → Bool) → value_at (literal_node v ∷ []) 2 bits ≡ bits v
single_value v bits =
    value_at_node (literal_node v ∷ []) (literal_reduced v) 2 (literal_node v) bits refl
    ∙ ap₂ (λ x y. cond (bits v) x y) (value_at_end (literal_node v ∷ []) 1 bits refl) (value_at_end (literal_node v ∷ []) 0 bits refl)
    ∙ bit_again (bits v)

pub literal_value : (v : ℕ) (nodes : List Branch) (root : ℕ) → root ≡ 2 → nodes ≡ literal_node v ∷ [] → (bits : ℕ → Bool) → value_at nodes root bits ≡ bits v
literal_value v nodes root r e bits = ap₂ (λ l k. value_at l k bits) e r ∙ single_value v bits

literal_below : (v limit : ℕ) → v < limit → HasVariablesBelow limit (literal_node v ∷ [])
literal_below v limit h zero n e = cc
literal_below v limit h (suc zero) n e = cc
literal_below v limit h (suc (suc zero)) n e = let P : Branch → Type 0 = λ m. m.var < limit in subst P (same_Some (literal_node v) n e) h
literal_below v limit h (suc (suc (suc k))) n e = cc

pub literal_variable : (v : ℕ) (nodes : List Branch) → nodes ≡ literal_node v ∷ [] → (limit : ℕ) → v < limit → HasVariablesBelow limit nodes
literal_variable v nodes e limit h = let P : List Branch → Type 0 = λ l. HasVariablesBelow limit l in subst P (sym e) (literal_below v limit h)

-- a test of equal parts is a test of equal values
pub values_by_parts : (a b : List Branch) (r s : ℕ) (t : Bool) → IsCanonical r a → IsCanonical s b → (IsTrue t ↔ ((r ≡ s) × (a ≡ b))) → (IsTrue t ↔ Same a r b s)
values_by_parts a b r s t p q parts = (
  λ yes bits. let e = parts.0 yes in ap₂ (λ l k. value_at l k bits) e.1 e.0,
  λ same. parts.1 (canonical_is_one a b r s p q same),
)
