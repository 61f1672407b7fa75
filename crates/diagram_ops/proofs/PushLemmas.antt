-- One more scratch node.
use Rattle.std.proofs.Common.{◌≡◌, ℕ, zero, suc, ◌+◌, ◌<◌, true, ◌&&◌, List, [], ◌∷◌, ◌++◌, length, refl, sym, ap, ap₂, ◌∙◌, subst, inl, inr, arith}
use Rattle.std.specs.Prelude.{Option, None, Some, ◌⊎◌, nat_eq, cond, slice_get}
use Rattle.std.proofs.lemmas.Bool.{cases_Bool, cond-true, cond-false, and_parts, eqb-true, eq-eqb}
use Rattle.std.proofs.lemmas.Option.{same_Some}
use Rattle.diagram_store.specs.declared.branch.Branch.{Branch}
use Rattle.diagram_store.specs.Nodes.{node_at, IsAbove, IsReduced}
use Rattle.diagram_store.proofs.CallerLemmas.{node_within, value_at_node, from_parts}
use Rattle.diagram_store.specs.TripleTables.{same_key}
use Rattle.diagram_ops.specs.private.Scratch.{Keeps, FindsNodes, IsScratch, Stands, IsChoice}
use Rattle.diagram_ops.proofs.KeepingLemmas.{keeps_above}

get_push : {X : Type 0} (xs : List X) (y x : X) (k : ℕ) → slice_get (xs ++ y ∷ []) k ≡ Some x → (slice_get xs k ≡ Some x) ⊎ ((k ≡ length xs) × (y ≡ x))
get_push [] y x zero e = inr (refl, same_Some y x e)
get_push [] y x (suc k) e = cc
get_push (z ∷ xs) y x zero e = inl e
get_push (z ∷ xs) y x (suc k) e = elim (get_push xs y x k e) [
  | inl h ↦ inl h
  | inr h ↦ inr (ap suc h.0, h.1)
]

get_old : {X : Type 0} (xs : List X) (y x : X) (k : ℕ) → slice_get xs k ≡ Some x → slice_get (xs ++ y ∷ []) k ≡ Some x
get_old [] y x k e = cc
get_old (z ∷ xs) y x zero e = e
get_old (z ∷ xs) y x (suc k) e = get_old xs y x k e

get_last : {X : Type 0} (xs : List X) (y : X) → slice_get (xs ++ y ∷ []) (length xs) ≡ Some y
get_last [] y = refl
get_last (z ∷ xs) y = get_last xs y

pub node_push : (nodes : List Branch) (m n : Branch) (r : ℕ) → node_at (nodes ++ m ∷ []) r ≡ Some n → (node_at nodes r ≡ Some n) ⊎ ((r ≡ length nodes + 2) × (m ≡ n))
node_push nodes m n zero e = inl e
node_push nodes m n (suc zero) e = inl e
node_push nodes m n (suc (suc k)) e = elim (get_push nodes m n k e) [
  | inl h ↦ inl h
  | inr h ↦ inr (let is : k ≡ length nodes = h.0 in omega arith, h.1)
]

pub node_old : (nodes : List Branch) (m n : Branch) (r : ℕ) → node_at nodes r ≡ Some n → node_at (nodes ++ m ∷ []) r ≡ Some n
node_old nodes m n zero e = cc
node_old nodes m n (suc zero) e = cc
node_old nodes m n (suc (suc k)) e = get_old nodes m n k e

pub node_last : (nodes : List Branch) (m : Branch) (r : ℕ) → r ≡ length nodes + 2 → node_at (nodes ++ m ∷ []) r ≡ Some m
node_last nodes m r e = let is : r ≡ suc (suc (length nodes)) = omega arith in ap (node_at (nodes ++ m ∷ [])) is ∙ get_last nodes m

pub keeps_push : (nodes : List Branch) (m : Branch) → Keeps nodes (nodes ++ m ∷ [])
keeps_push nodes m = record { each = λ r n e. node_old nodes m n r e }

module _ (nodes : List Branch) (all : IsReduced nodes) (m : Branch) (low : m.low < length nodes + 2) (high : m.high < length nodes + 2)
    (low_above : IsAbove nodes m.var m.low) (high_above : IsAbove nodes m.var m.high) (differs : m.low ≡ m.high → ⊥)
    (fresh : (r : ℕ) → node_at nodes r ≡ Some m → ⊥) where
  abbrev more : List Branch
  more = nodes ++ m ∷ []

  at_old_or_last : (P : ℕ → Branch → Type 0) → ((r : ℕ) (n : Branch) → node_at nodes r ≡ Some n → P r n) → P (length nodes + 2) m → (r : ℕ) (n : Branch) → node_at more r ≡ Some n → P r n
  at_old_or_last P old last r n e = elim (node_push nodes m n r e) [
    | inl h ↦ old r n h
    | inr h ↦ subst (λ (k : ℕ). P k n) (sym h.0) (subst (λ (x : Branch). P (length nodes + 2) x) h.1 last)
  ]

  distinct : (r s : ℕ) (n : Branch) → node_at more r ≡ Some n → node_at more s ≡ Some n → r ≡ s
  distinct r s n e f = elim (node_push nodes m n r e) [
    | inl h ↦ elim (node_push nodes m n s f) [
      | inl h' ↦ all.distinct r s n h h'
      | inr h' ↦ absurd (fresh r (h ∙ ap Some (sym h'.1)))
    ]
    | inr h ↦ elim (node_push nodes m n s f) [
      | inl h' ↦ absurd (fresh s (h' ∙ ap Some (sym h.1)))
      | inr h' ↦ h.0 ∙ sym h'.0
    ]
  ]

  pub reduced_push : IsReduced more
  reduced_push = record {
    earlier = at_old_or_last (λ r n. (n.low < r) × (n.high < r)) all.earlier (low, high);
    rises = at_old_or_last (λ r n. IsAbove more n.var n.low × IsAbove more n.var n.high)
        (λ r n e.
        let up = all.rises r n e in
        let before = all.earlier r n e in
        let w = (node_within nodes r n e).1 in (
          keeps_above nodes more (keeps_push nodes m) n.var n.low (omega (arith, before.0, w)) up.0,
          keeps_above nodes more (keeps_push nodes m) n.var n.high (omega (arith, before.1, w)) up.1,
        ))
        (keeps_above nodes more (keeps_push nodes m) m.var m.low low low_above, keeps_above nodes more (keeps_push nodes m) m.var m.high high high_above);
    differs = at_old_or_last (λ r n. n.low ≡ n.high → ⊥) all.differs differs;
    distinct = distinct;
  }

key_same : (m n : Branch) → same_key (m.var, m.low, m.high) (n.var, n.low, n.high) ≡ true → m ≡ n
key_same m n e =
    let outer = and_parts (nat_eq m.var n.var && nat_eq m.low n.low) (nat_eq m.high n.high) e in
    let inner = and_parts (nat_eq m.var n.var) (nat_eq m.low n.low) outer.0 in
    from_parts m n (eqb-true m.var n.var inner.0) (eqb-true m.low n.low inner.1) (eqb-true m.high n.high outer.1)

pub key_parts : (x y z a b c : ℕ) → same_key (x, y, z) (a, b, c) ≡ true → (x ≡ a) × (y ≡ b) × (z ≡ c)
key_parts x y z a b c e =
    let outer = and_parts (nat_eq x a && nat_eq y b) (nat_eq z c) e in
    let inner = and_parts (nat_eq x a) (nat_eq y b) outer.0 in
    (eqb-true x a inner.0, eqb-true y b inner.1, eqb-true z c outer.1)

pub key_itself : (x y z : ℕ) → same_key (x, y, z) (x, y, z) ≡ true
key_itself x y z = ap₂ (λ a b. a && b) (ap₂ (λ a b. a && b) (eq-eqb x x refl) (eq-eqb y y refl)) (eq-eqb z z refl)

-- the table with the new node
pub finds_push : (places next : ℕ → ℕ → ℕ → Option ℕ) (nodes : List Branch) (m : Branch) (r : ℕ) → FindsNodes places nodes → r ≡ length nodes + 2
    → places m.var m.low m.high ≡ None → ((a b c : ℕ) → next a b c ≡ cond (same_key (m.var, m.low, m.high) (a, b, c)) (Some r) (places a b c))
    → FindsNodes next (nodes ++ m ∷ [])
finds_push places next nodes m r found is none noted = record {
  finds = λ s n e. noted n.var n.low n.high ∙ elim (node_push nodes m n s e) [
    | inl h ↦ elim (cases_Bool (same_key (m.var, m.low, m.high) (n.var, n.low, n.high))) [
      | inl same ↦
          let e' : places m.var m.low m.high ≡ Some s = found.finds s m (h ∙ ap Some (sym (key_same m n same))) in
          let f : None ≡ Some s = sym none ∙ e' in
          cc
      | inr apart ↦ cond-false (same_key (m.var, m.low, m.high) (n.var, n.low, n.high)) (Some r) (places n.var n.low n.high) apart ∙ found.finds s n h
    ]
    | inr h ↦
        cond-true (same_key (m.var, m.low, m.high) (n.var, n.low, n.high)) (Some r) (places n.var n.low n.high)
        (let P : Branch → Type 0 = λ x. same_key (m.var, m.low, m.high) (x.var, x.low, x.high) ≡ true in subst P h.1 (key_itself m.var m.low m.high))
        ∙ ap Some (is ∙ sym h.0)
  ];
  sound = λ s n e. elim (cases_Bool (same_key (m.var, m.low, m.high) (n.var, n.low, n.high))) [
    | inl same ↦
        let f : r ≡ s = same_Some r s (sym (cond-true (same_key (m.var, m.low, m.high) (n.var, n.low, n.high)) (Some r) (places n.var n.low n.high) same) ∙ sym (noted n.var n.low n.high) ∙ e) in
        node_last nodes m s (sym f ∙ is) ∙ ap Some (key_same m n same)
    | inr apart ↦
        node_old nodes m n s (found.sound s n (sym (cond-false (same_key (m.var, m.low, m.high) (n.var, n.low, n.high)) (Some r) (places n.var n.low n.high) apart) ∙ sym (noted n.var n.low n.high) ∙ e))
  ];
}

pub finds_same : (places next : ℕ → ℕ → ℕ → Option ℕ) (nodes : List Branch) → FindsNodes places nodes → ((a b c : ℕ) → next a b c ≡ places a b c) → FindsNodes next nodes
finds_same places next nodes found same = record {
  finds = λ r n e. same n.var n.low n.high ∙ found.finds r n e;
  sound = λ r n e. found.sound r n (sym (same n.var n.low n.high) ∙ e);
}

-- a node stands for the choice by its variable
pub stands_node : (nodes : List Branch) → IsReduced nodes → (r : ℕ) (n : Branch) → node_at nodes r ≡ Some n → Stands nodes r (IsChoice nodes n.var n.low n.high) (λ v. v < n.var)
stands_node nodes all r n at = record {
  within = (node_within nodes r n at).1;
  means = λ bits. value_at_node nodes all r n bits at;
  above = λ v h m e. let is : n ≡ m = same_Some n m (sym at ∙ e) in subst (λ (x : Branch). v < x.var) is h;
}

pub record Pushed (next : ℕ → ℕ → ℕ → Option ℕ) (nodes more : List Branch) (r v l h : ℕ) : Type 0 where
  pub scratch : IsScratch next more
  pub keeps : Keeps nodes more
  pub stands : Stands more r (IsChoice more v l h) (λ u. u < v)

-- the scratch with a new node, as the code makes it
pub scratch_push : (places next : ℕ → ℕ → ℕ → Option ℕ) (nodes more : List Branch) (r v l h x y : ℕ) → IsScratch places nodes
    → more ≡ nodes ++ record { var = v; low = l; high = h } ∷ [] → r ≡ length nodes + 2
    → l < length nodes + 2 → h < length nodes + 2 → IsAbove nodes v l → IsAbove nodes v h → (l ≡ h → ⊥)
    → x ≡ v → places x l h ≡ None → y ≡ v → ((a b c : ℕ) → next a b c ≡ cond (same_key (y, l, h) (a, b, c)) (Some r) (places a b c))
    → Pushed next nodes more r v l h
scratch_push places next nodes more r v l h x y s is count low high low_above high_above differs ex none ey noted =
    let m : Branch = record { var = v; low = l; high = h } in
    let absent : places v l h ≡ None = ap (λ k. places k l h) (sym ex) ∙ none in
    let fresh : (k : ℕ) → node_at nodes k ≡ Some m → ⊥ = λ k e. let f : None ≡ Some k = sym absent ∙ s.found.finds k m e in cc in
    let noted' : (a b c : ℕ) → next a b c ≡ cond (same_key (v, l, h) (a, b, c)) (Some r) (places a b c) =
    let Q : ℕ → Type 0 = λ k. (a b c : ℕ) → next a b c ≡ cond (same_key (k, l, h) (a, b, c)) (Some r) (places a b c) in
    subst Q ey noted in
    let all = reduced_push nodes s.reduced m low high low_above high_above differs fresh in
    let P : List Branch → Type 0 = λ k. Pushed next nodes k r v l h in
    subst P (sym is)
    (record {
      scratch = record { reduced = all; found = finds_push places next nodes m r s.found count absent noted' };
      keeps = keeps_push nodes m;
      stands = stands_node (nodes ++ m ∷ []) all r m (node_last nodes m r count);
    })

-- as `Stands` at another name of the reference
pub stands_found : (places : ℕ → ℕ → ℕ → Option ℕ) (nodes view : List Branch) (r v l h x : ℕ) → IsScratch places nodes → nodes ≡ view → x ≡ v → places x l h ≡ Some r
    → Stands view r (IsChoice view v l h) (λ u. u < v)
stands_found places nodes view r v l h x s is e at =
    let m : Branch = record { var = v; low = l; high = h } in
    let P : List Branch → Type 0 = λ k. Stands k r (IsChoice k v l h) (λ u. u < v) in
    subst P is (stands_node nodes s.reduced r m (s.found.sound r m (ap (λ k. places k l h) (sym e) ∙ at)))
