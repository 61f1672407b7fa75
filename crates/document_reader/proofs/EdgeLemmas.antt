-- Edges that are counted up to the largest number of 64 bits.
use Rattle.std.proofs.Common.{◌≡◌, ℕ, ◌+◌, ◌-◌, ◌*◌, ◌^◌, ◌<◌, ◌≤◌, Bool, true, false, List, ◌∷◌, length, map, drop, get_or, sym, ap, ◌∙◌, inl, inr, arith}
use Rattle.std.specs.Prelude.{nat_lt, min, if◌then◌else◌}
use Rattle.std.proofs.lemmas.Bool.{cases_lt, lt-ltb, le-ltb}
use Rattle.std.proofs.lemmas.List.{at_drop_more, at_drop_all}
use Rattle.wpds_base.specs.Limits.{most_edges}
use Rattle.document_forms.specs.Kinds.{sources, edges}
use Rattle.document_forms.specs.Lawful.{set_count, item_count}
use Rattle.document_forms.specs.declared.pattern.ItemText.{ItemText}

abbrev pub capped : ℕ → ℕ
capped n = min n (2 ^ 64 - 1)

step : (m e p rest : ℕ) → min (min (e + min p m) m + rest) m ≡ min (e + (p + rest)) m
step m e p rest = omega arith

-- The edges of items, counted up to one of them, and from there on.
pub edges_step :
    (all : ℕ) (is : List ItemText) (k from e : ℕ) (i : ItemText) (behind f : ℕ) → k < length is
    → i ≡ get_or is k i → behind ≡ (if i.star then from + 1 else 1)
    → f ≡ capped (e + capped (set_count all i.set * sources from i.star))
    → capped (f + edges behind (map (item_count all) (drop (k + 1) is))) ≡ capped (e + edges from (map (item_count all) (drop k is)))
edges_step all is k from e i behind f h g b n =
    ap (λ m. capped (m + edges behind (map (item_count all) (drop (k + 1) is)))) n
    ∙ (ap (λ m. capped (capped (e + capped (set_count all i.set * sources from i.star)) + edges m (map (item_count all) (drop (k + 1) is)))) b
    ∙ (step (2 ^ 64 - 1) e (set_count all i.set * sources from i.star) (edges (if i.star then from + 1 else 1) (map (item_count all) (drop (k + 1) is)))
    ∙ ap (λ m. capped (e + m)) (sym (at_drop_more (λ xs. edges from (map (item_count all) xs)) is k i h ∙ ap (λ x. edges from (map (item_count all) (x ∷ drop (k + 1) is))) (sym g)))))

pub behind_few :
    (from k : ℕ) (star : Bool) (behind : ℕ) → from ≤ k + 1 → behind ≡ (if star then from + 1 else 1)
    → behind ≤ (k + 1) + 1
behind_few from k true behind h e = omega (arith, h, e)
behind_few from k false behind h e = omega (arith, h, e)

-- both are beyond the limit, or neither is
same_limit :
    (x y : ℕ) → x ≤ 2 ^ 64 - 1 → capped x ≡ capped y → nat_lt most_edges x ≡ nat_lt most_edges y
same_limit x y h e = elim (cases_lt most_edges x) [
  | inl g ↦ lt-ltb most_edges x g ∙ sym (lt-ltb most_edges y (omega (arith, e, g)))
  | inr g ↦ le-ltb most_edges x g ∙ sym (le-ltb most_edges y (omega (arith, e, g)))
]

pub edges_end :
    (all : ℕ) (is : List ItemText) (k from e : ℕ) → e ≤ 2 ^ 64 - 1 → length is ≤ k
    → capped (e + edges from (map (item_count all) (drop k is))) ≡ capped (edges 1 (map (item_count all) is))
    → nat_lt most_edges e ≡ nat_lt most_edges (edges 1 (map (item_count all) is))
edges_end all is k from e h g n =
    same_limit e (edges 1 (map (item_count all) is)) h
    (ap capped (sym (add-zero e)) ∙ (ap (λ m. capped (e + m)) (sym (at_drop_all (λ xs. edges from (map (item_count all) xs)) is k g)) ∙ n))
  where
    add-zero : (m : ℕ) → m + 0 ≡ m
    add-zero m = omega arith
