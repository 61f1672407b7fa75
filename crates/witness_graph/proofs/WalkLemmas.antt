-- The walk through a graph, and what the code's stack keeps of it.
use Rattle.std.proofs.Common.{◌≡◌, ℕ, zero, suc, ◌+◌, ◌-◌, ◌*◌, ◌<◌, ◌≤◌, Bool, true, false, List, [], ◌∷◌, ◌++◌, length, fold, refl, sym, ap, ap₂, ◌∙◌, subst, inl, inr, arith}
use Rattle.std.specs.Prelude.{Option, None, Some, is_some, cond, nat_eq}
use Rattle.std.specs.List.{AllByRecursion}
use Rattle.std.proofs.lemmas.Bool.{cond-true, cond-false, cond_both, cases_Bool, eqb-true, eq-eqb}
use Rattle.std.proofs.lemmas.Option.{same_Some}
use Rattle.std.proofs.lemmas.List.{length_push}
use Rattle.witness_graph.specs.declared.node.Node.{Node}
use Rattle.witness_graph.specs.Nodes.{node_at, named, AreNodes}
use Rattle.witness_graph.specs.Order.{place_of, is_listed, walk, post_order}
use Rattle.witness_graph.specs.private.Walking.{first_new, finished, Falls, IsWalking, lacks, unlisted}
use Rattle.witness_graph.proofs.NodeLemmas.{all_weaker, names_earlier}
use Rattle.witness_graph.proofs.PlaceLemmas.{place_push_new, place_push_other, none_is, listed_more, listed_new}

-- a fold keeps what each of its steps keeps
pub fold_keeps : (f : List ℕ → ℕ → List ℕ) (Q : List ℕ → Type 0) (ks : List ℕ) (l : List ℕ) → AllByRecursion (λ k. (m : List ℕ) → Q m → Q (f m k)) ks → Q l → Q (fold f l ks)
fold_keeps f Q [] l steps q = q
fold_keeps f Q (k ∷ ks) l steps q = fold_keeps f Q ks (f l k) steps.1 (steps.0 l q)

fold_same : (f g : List ℕ → ℕ → List ℕ) (ks : List ℕ) (l : List ℕ) → AllByRecursion (λ k. (m : List ℕ) → f m k ≡ g m k) ks → fold f l ks ≡ fold g l ks
fold_same f g [] l same = refl
fold_same f g (k ∷ ks) l same = ap (λ m. fold f m ks) (same.0 l) ∙ fold_same f g ks (g l k) same.1

all_of : (P : ℕ → Type 0) → ((k : ℕ) → P k) → (ks : List ℕ) → AllByRecursion P ks
all_of P f [] = tt
all_of P f (k ∷ ks) = (f k, all_of P f ks)

-- the first that is not known is one of them, and not known
first_in : (known : ℕ → Bool) (Q : ℕ → Type 0) (p : ℕ) (ks : List ℕ) → first_new known ks ≡ Some p → AllByRecursion Q ks → Q p
first_in known Q p [] e h = cc
first_in known Q p (k ∷ ks) e h = elim (cases_Bool (known k)) [
  | inl is ↦ first_in known Q p ks (sym (cond-true (known k) (first_new known ks) (Some k) is) ∙ e) h.1
  | inr new ↦ subst Q (same_Some k p (sym (cond-false (known k) (first_new known ks) (Some k) new) ∙ e)) h.0
]

first_unknown : (known : ℕ → Bool) (p : ℕ) (ks : List ℕ) → first_new known ks ≡ Some p → known p ≡ false
first_unknown known p [] e = cc
first_unknown known p (k ∷ ks) e = elim (cases_Bool (known k)) [
  | inl is ↦ first_unknown known p ks (sym (cond-true (known k) (first_new known ks) (Some k) is) ∙ e)
  | inr new ↦ subst (λ (q : ℕ). known q ≡ false) (same_Some k p (sym (cond-false (known k) (first_new known ks) (Some k) new) ∙ e)) new
]

first_same : (known other : ℕ → Bool) → ((k : ℕ) → known k ≡ other k) → (ks : List ℕ) → first_new known ks ≡ first_new other ks
first_same known other same [] = refl
first_same known other same (k ∷ ks) = ap (λ b. cond b (first_new known ks) (Some k)) (same k) ∙ ap (λ o. cond (other k) o (Some k)) (first_same known other same ks)

-- the first of two lists, one after the other
pub first_left : (known : ℕ → Bool) (xs ys : List ℕ) (k : ℕ) → first_new known xs ≡ Some k → first_new known (xs ++ ys) ≡ Some k
first_left known [] ys k e = cc
first_left known (x ∷ xs) ys k e = elim (known x) as (λ b. cond b (first_new known xs) (Some x) ≡ Some k → cond b (first_new known (xs ++ ys)) (Some x) ≡ Some k) [
  | true ↦ λ h. first_left known xs ys k h
  | false ↦ λ h. h
] e

pub first_right : (known : ℕ → Bool) (xs ys : List ℕ) → first_new known xs ≡ None → first_new known (xs ++ ys) ≡ first_new known ys
first_right known [] ys e = refl
first_right known (x ∷ xs) ys e = elim (known x) as (λ b. cond b (first_new known xs) (Some x) ≡ None → cond b (first_new known (xs ++ ys)) (Some x) ≡ first_new known ys) [
  | true ↦ λ h. first_right known xs ys h
  | false ↦ λ h. cc
] e

falls_top : (limit : ℕ) (xs : List ℕ) (t : ℕ) (l : List ℕ) → Falls limit (xs ++ t ∷ []) l → (t < limit) × (place_of t l ≡ None)
falls_top limit [] t l f = (f.0, f.1)
falls_top limit (x ∷ xs) t l f = let top = falls_top x xs t l f.2 in (omega (arith, top.0, f.0), top.1)

falls_push : (limit : ℕ) (xs : List ℕ) (t p : ℕ) (l : List ℕ) → Falls limit (xs ++ t ∷ []) l → p < t → place_of p l ≡ None → Falls limit ((xs ++ t ∷ []) ++ p ∷ []) l
falls_push limit [] t p l f down new = (f.0, f.1, (down, new, tt))
falls_push limit (x ∷ xs) t p l f down new = (f.0, f.1, falls_push x xs t p l f.2 down new)

falls_pop : (limit : ℕ) (xs : List ℕ) (t : ℕ) (l : List ℕ) → Falls limit (xs ++ t ∷ []) l → Falls limit xs (l ++ t ∷ [])
falls_pop limit [] t l f = tt
falls_pop limit (x ∷ xs) t l f =
    let top = falls_top x xs t l f.2 in
    (f.0, place_push_other x t l (λ e. let g : t < x = top.0 in absurd (omega arith)) ∙ f.1, falls_pop x xs t l f.2)

pub falls_length : (limit : ℕ) (xs l : List ℕ) → Falls limit xs l → length xs ≤ limit
falls_length limit [] l f = omega arith
falls_length limit (x ∷ xs) l f = omega (arith, falls_length x xs l f.2, f.0)

module _ (nodes : List Node) where
  abbrev pub names : ℕ → List ℕ
  names k = named (node_at nodes k)

  pub walk_step : (d : ℕ) (l : List ℕ) (k : ℕ) → walk nodes (suc d) l k ≡ cond (is_listed l k) l (fold (walk nodes d) l (names k) ++ k ∷ [])
  unfolding walk
  walk_step d l k = refl

  pub walk_none : (l : List ℕ) (k : ℕ) → walk nodes zero l k ≡ l
  unfolding walk
  walk_none l k = refl

  -- what is listed stays listed
  walk_keeps : (d : ℕ) (l : List ℕ) (k j : ℕ) → is_listed l j ≡ true → is_listed (walk nodes d l k) j ≡ true
  walk_keeps zero l k j h = ap (λ m. is_listed m j) (walk_none l k) ∙ h
  walk_keeps (suc d) l k j h =
      let Q : List ℕ → Type 0 = λ m. is_listed m j ≡ true in
      subst Q (sym (walk_step d l k))
      (cond_both (is_listed l k) l (fold (walk nodes d) l (names k) ++ k ∷ []) Q (λ _. h)
      (λ _. listed_more (fold (walk nodes d) l (names k)) (k ∷ []) j
      (fold_keeps (walk nodes d) Q (names k) l (all_of (λ i. (m : List ℕ) → Q m → Q (walk nodes d m i)) (λ i m q. walk_keeps d m i j q) (names k)) h)))

  -- the walked node is listed
  pub walk_lists : (d : ℕ) (l : List ℕ) (k : ℕ) → is_listed (walk nodes (suc d) l k) k ≡ true
  walk_lists d l k =
      let Q : List ℕ → Type 0 = λ m. is_listed m k ≡ true in
      subst Q (sym (walk_step d l k))
      (cond_both (is_listed l k) l (fold (walk nodes d) l (names k) ++ k ∷ []) Q (λ e. e) (λ _. listed_new (fold (walk nodes d) l (names k)) k))

module _ (nodes : List Node) (all : AreNodes nodes) where
  abbrev below : (k : ℕ) → AllByRecursion (λ j. j < k) (names nodes k)
  below k = names_earlier nodes all k

  -- a deeper walk lists the same
  walk_deeper : (d e : ℕ) (l : List ℕ) (k : ℕ) → k < d → k < e → walk nodes d l k ≡ walk nodes e l k
  walk_deeper zero e l k h h' = absurd (omega arith)
  walk_deeper (suc d) zero l k h h' = absurd (omega arith)
  walk_deeper (suc d) (suc e) l k h h' =
      walk_step nodes d l k
      ∙ ap (λ m. cond (is_listed l k) l (m ++ k ∷ []))
      (fold_same (walk nodes d) (walk nodes e) (names nodes k) l
      (all_weaker (λ j. j < k) (λ j. (m : List ℕ) → walk nodes d m j ≡ walk nodes e m j) (λ j b m. walk_deeper d e m j (omega arith) (omega arith)) (names nodes k) (below k)))
      ∙ sym (walk_step nodes e l k)

  abbrev full : List ℕ → ℕ → List ℕ
  full l k = walk nodes (suc k) l k

  full_step : (l : List ℕ) (k : ℕ) → full l k ≡ cond (is_listed l k) l (fold full l (names nodes k) ++ k ∷ [])
  full_step l k =
      walk_step nodes k l k
      ∙ ap (λ m. cond (is_listed l k) l (m ++ k ∷ []))
      (fold_same (walk nodes k) full (names nodes k) l
      (all_weaker (λ j. j < k) (λ j. (m : List ℕ) → walk nodes k m j ≡ full m j) (λ j b m. walk_deeper k (suc j) m j b (omega arith)) (names nodes k) (below k)))

  -- a walk leaves out what is above its node
  walk_below : (d : ℕ) (l : List ℕ) (k j : ℕ) → k < j → place_of j l ≡ None → place_of j (walk nodes d l k) ≡ None
  walk_below zero l k j b h = ap (place_of j) (walk_none nodes l k) ∙ h
  walk_below (suc d) l k j b h =
      let Q : List ℕ → Type 0 = λ m. place_of j m ≡ None in
      subst Q (sym (walk_step nodes d l k))
      (cond_both (is_listed l k) l (fold (walk nodes d) l (names nodes k) ++ k ∷ []) Q (λ _. h)
      (λ _. place_push_other j k (fold (walk nodes d) l (names nodes k)) (λ e. let f : k < j = b in absurd (omega arith))
      ∙ fold_keeps (walk nodes d) Q (names nodes k) l
      (all_weaker (λ i. i < k) (λ i. (m : List ℕ) → Q m → Q (walk nodes d m i)) (λ i c m q. walk_below d m i j (omega arith) q) (names nodes k) (below k)) h))

  lists_within : (d : ℕ) (l : List ℕ) (k : ℕ) → k < d → is_listed (walk nodes d l k) k ≡ true
  lists_within zero l k h = absurd (omega arith)
  lists_within (suc d) l k h = walk_lists nodes d l k

  -- The walk lists one node after another, each after all that it names.
  module _ (P : List ℕ → Type 0) (limit : ℕ)
      (step : (l : List ℕ) (k : ℕ) → k < limit → P l → place_of k l ≡ None → AllByRecursion (λ j. is_listed l j ≡ true) (names nodes k) → P (l ++ k ∷ [])) where
    fold_by : (d : ℕ) (ks : List ℕ) (l : List ℕ) → AllByRecursion (λ k. k < d) ks → AllByRecursion (λ k. (m : List ℕ) → P m → P (walk nodes d m k)) ks → P l
        → P (fold (walk nodes d) l ks) × AllByRecursion (λ k. is_listed (fold (walk nodes d) l ks) k ≡ true) ks
    fold_by d [] l bounds steps p = (p, tt)
    fold_by d (k ∷ ks) l bounds steps p =
        let next : List ℕ = walk nodes d l k in
        let rest = fold_by d ks next bounds.1 steps.1 (steps.0 l p) in
        let Q : List ℕ → Type 0 = λ m. is_listed m k ≡ true in (
          rest.0,
          (
            fold_keeps (walk nodes d) Q ks next (all_of (λ i. (m : List ℕ) → Q m → Q (walk nodes d m i)) (λ i m q. walk_keeps nodes d m i k q) ks) (lists_within d l k bounds.0),
            rest.1,
          ),
        )

    pub walk_by : (d : ℕ) (l : List ℕ) (k : ℕ) → k < d → k < limit → P l → P (walk nodes d l k)
    walk_by zero l k h b p = absurd (omega arith)
    walk_by (suc d) l k h b p =
        let Q : List ℕ → Type 0 = λ m. place_of k m ≡ None in
        subst P (sym (walk_step nodes d l k))
        (elim (cases_Bool (is_listed l k)) [
          | inl e ↦ subst P (sym (cond-true (is_listed l k) l (fold (walk nodes d) l (names nodes k) ++ k ∷ []) e)) p
          | inr e ↦
              let got = fold_by d (names nodes k) l
              (all_weaker (λ j. j < k) (λ j. j < d) (λ j c. omega arith) (names nodes k) (below k))
              (all_weaker (λ j. j < k) (λ j. (m : List ℕ) → P m → P (walk nodes d m j)) (λ j c m q. walk_by d m j (omega arith) (omega arith) q) (names nodes k) (below k)) p in
              subst P (sym (cond-false (is_listed l k) l (fold (walk nodes d) l (names nodes k) ++ k ∷ []) e))
              (step (fold (walk nodes d) l (names nodes k)) k b got.0
              (fold_keeps (walk nodes d) Q (names nodes k) l
              (all_weaker (λ j. j < k) (λ j. (m : List ℕ) → Q m → Q (walk nodes d m j)) (λ j c m q. walk_below d m j k c q) (names nodes k) (below k)) (none_is (place_of k l) e))
              got.1)
        ])

  -- The turns of the code: down to the first that is not listed, or up.
  full_listed : (l : List ℕ) (k : ℕ) → is_listed l k ≡ true → full l k ≡ l
  full_listed l k e = full_step l k ∙ cond-true (is_listed l k) l (fold full l (names nodes k) ++ k ∷ []) e

  full_new : (l : List ℕ) (k : ℕ) → is_listed l k ≡ false → full l k ≡ fold full l (names nodes k) ++ k ∷ []
  full_new l k e = full_step l k ∙ cond-false (is_listed l k) l (fold full l (names nodes k) ++ k ∷ []) e

  fold_first : (l : List ℕ) (p : ℕ) (ks : List ℕ) → first_new (is_listed l) ks ≡ Some p → fold full l ks ≡ fold full (full l p) ks
  fold_first l p [] e = cc
  fold_first l p (k ∷ ks) e = elim (cases_Bool (is_listed l k)) [
    | inl is ↦
        ap (λ m. fold full m ks) (full_listed l k is)
        ∙ fold_first l p ks (sym (cond-true (is_listed l k) (first_new (is_listed l) ks) (Some k) is) ∙ e)
        ∙ ap (λ m. fold full m ks) (sym (full_listed (full l p) k (walk_keeps nodes (suc p) l p k is)))
    | inr new ↦
        let same : k ≡ p = same_Some k p (sym (cond-false (is_listed l k) (first_new (is_listed l) ks) (Some k) new) ∙ e) in
        ap (λ m. fold full m ks) (sym (full_listed (full l k) k (walk_lists nodes k l k)) ∙ ap (λ q. full (full l q) k) same)
  ]

  fold_all : (l : List ℕ) (ks : List ℕ) → first_new (is_listed l) ks ≡ None → fold full l ks ≡ l
  fold_all l [] e = refl
  fold_all l (k ∷ ks) e = elim (cases_Bool (is_listed l k)) [
    | inl is ↦ ap (λ m. fold full m ks) (full_listed l k is) ∙ fold_all l ks (sym (cond-true (is_listed l k) (first_new (is_listed l) ks) (Some k) is) ∙ e)
    | inr new ↦ let f : Some k ≡ None = sym (cond-false (is_listed l k) (first_new (is_listed l) ks) (Some k) new) ∙ e in cc
  ]

  descend : (l : List ℕ) (t p : ℕ) → place_of t l ≡ None → first_new (is_listed l) (names nodes t) ≡ Some p → full (full l p) t ≡ full l t
  descend l t p new e =
      let down : p < t = first_in (is_listed l) (λ j. j < t) p (names nodes t) e (below t) in
      full_new (full l p) t (ap is_some (walk_below (suc p) l p t down new))
      ∙ ap (λ m. m ++ t ∷ []) (sym (fold_first l p (names nodes t) e))
      ∙ sym (full_new l t (ap is_some new))

  ascend : (l : List ℕ) (t : ℕ) → place_of t l ≡ None → first_new (is_listed l) (names nodes t) ≡ None → full l t ≡ l ++ t ∷ []
  ascend l t new e = full_new l t (ap is_some new) ∙ ap (λ m. m ++ t ∷ []) (fold_all l (names nodes t) e)

  finished_push : (xs : List ℕ) (t : ℕ) (l : List ℕ) → finished nodes (xs ++ t ∷ []) l ≡ finished nodes xs (full l t)
  finished_push [] t l = refl
  finished_push (x ∷ xs) t l = ap (λ m. full m x) (finished_push xs t l)

-- The code's turns keep what it keeps.
module _ (nodes : List Node) (all : AreNodes nodes) (root : ℕ) where
  pub walking_start : (table : ℕ → Option ℕ) → ((k : ℕ) → table k ≡ None) → IsWalking nodes root (root ∷ []) [] table
  walking_start table none = record { finishes = refl; falls = (omega arith, refl, tt); known = none }

  module _ (stack : List ℕ) (t : ℕ) (order : List ℕ) (table : ℕ → Option ℕ) (w : IsWalking nodes root (stack ++ t ∷ []) order table) where
    pub walking_top : t < root + 1
    walking_top = (falls_top (root + 1) stack t order w.falls).0

    first_as_listed : (ks : List ℕ) → first_new (λ j. is_some (table j)) ks ≡ first_new (is_listed order) ks
    first_as_listed ks = first_same (λ j. is_some (table j)) (is_listed order) (λ k. ap is_some (w.known k)) ks

    pub walking_down : (p : ℕ) → first_new (λ j. is_some (table j)) (named (node_at nodes t)) ≡ Some p → IsWalking nodes root ((stack ++ t ∷ []) ++ p ∷ []) order table
    walking_down p e =
        let top = falls_top (root + 1) stack t order w.falls in
        let first : first_new (is_listed order) (named (node_at nodes t)) ≡ Some p = sym (first_as_listed (named (node_at nodes t))) ∙ e in
        record {
          finishes = finished_push nodes all (stack ++ t ∷ []) p order ∙ finished_push nodes all stack t (full nodes all order p)
              ∙ ap (finished nodes stack) (descend nodes all order t p top.1 first) ∙ sym (finished_push nodes all stack t order) ∙ w.finishes;
          falls = falls_push (root + 1) stack t p order w.falls (first_in (is_listed order) (λ j. j < t) p (named (node_at nodes t)) first (names_earlier nodes all t))
              (none_is (place_of p order) (first_unknown (is_listed order) p (named (node_at nodes t)) first));
          known = w.known;
        }

    pub walking_up : (next : ℕ → Option ℕ) → ((k : ℕ) → next k ≡ cond (nat_eq t k) (Some (length order)) (table k))
        → first_new (λ j. is_some (table j)) (named (node_at nodes t)) ≡ None → IsWalking nodes root stack (order ++ t ∷ []) next
    walking_up next noted e =
        let top = falls_top (root + 1) stack t order w.falls in
        let first : first_new (is_listed order) (named (node_at nodes t)) ≡ None = sym (first_as_listed (named (node_at nodes t))) ∙ e in
        record {
          finishes = ap (finished nodes stack) (sym (ascend nodes all order t top.1 first)) ∙ sym (finished_push nodes all stack t order) ∙ w.finishes;
          falls = falls_pop (root + 1) stack t order w.falls;
          known = λ k. noted k ∙ elim (cases_Bool (nat_eq t k)) [
            | inl e ↦
                let is : t ≡ k = eqb-true t k e in
                cond-true (nat_eq t k) (Some (length order)) (table k) e
                ∙ sym (place_push_new t order top.1) ∙ ap (λ j. place_of j (order ++ t ∷ [])) is
            | inr e ↦
                cond-false (nat_eq t k) (Some (length order)) (table k) e
                ∙ w.known k
                ∙ sym (place_push_other k t order (λ is. let f : true ≡ false = sym (eq-eqb t k is) ∙ e in cc))
          ];
        }

-- as the code's loop has its stack and its measure
pub walking_popped : (nodes : List Node) (root : ℕ) (stack rest order : List ℕ) (t : ℕ) (table : ℕ → Option ℕ) → stack ≡ rest ++ t ∷ []
    → IsWalking nodes root stack order table → IsWalking nodes root (rest ++ t ∷ []) order table
walking_popped nodes root stack rest order t table e w = let P : List ℕ → Type 0 = λ s. IsWalking nodes root s order table in subst P e w

pub smaller_down : (m root : ℕ) (stack rest stack' order : List ℕ) (t p : ℕ) → stack ≡ rest ++ t ∷ [] → stack' ≡ (rest ++ t ∷ []) ++ p ∷ [] → Falls (root + 1) stack' order
    → m * (root + 2) + (root + 1 - length stack') < m * (root + 2) + (root + 1 - length stack)
smaller_down m root stack rest stack' order t p e e' falls =
    let x : ℕ = m * (root + 2) in
    let bound : length stack' ≤ root + 1 = falls_length (root + 1) stack' order falls in
    let one : length stack ≡ length (rest ++ t ∷ []) = ap length e in
    let two : length stack' ≡ length (rest ++ t ∷ []) + 1 = ap length e' ∙ length_push (rest ++ t ∷ []) p in
    omega arith

product : (m r : ℕ) → (m + 1) * r ≡ m * r + r
product m r = omega arith

pub smaller_up : (m m' root a b : ℕ) → m' + 1 ≡ m → m' * (root + 2) + (root + 1 - b) < m * (root + 2) + (root + 1 - a)
smaller_up m m' root a b e =
    let p : m * (root + 2) ≡ m' * (root + 2) + (root + 2) = ap (λ x. x * (root + 2)) (sym e) ∙ product m' (root + 2) in
    omega arith

unlisted_above : (n t : ℕ) (order : List ℕ) → n ≤ t → unlisted n (order ++ t ∷ []) ≡ unlisted n order
unfolding unlisted
unlisted_above zero t order above = refl
unlisted_above (suc n) t order above =
    ap₂ (λ o u. lacks o + u) (place_push_other n t order (λ e. let f : n < t = omega arith in absurd (omega arith))) (unlisted_above n t order (omega arith))

unlisted_at : (n t : ℕ) (order : List ℕ) (b : Bool) → nat_eq n t ≡ b → t < suc n → place_of t order ≡ None
    → (t < n → unlisted n (order ++ t ∷ []) + 1 ≡ unlisted n order)
    → (lacks (place_of n (order ++ t ∷ [])) + unlisted n (order ++ t ∷ [])) + 1 ≡ lacks (place_of n order) + unlisted n order
unlisted_at n t order true test below none fewer =
    let is : n ≡ t = eqb-true n t test in
    let now : lacks (place_of n (order ++ t ∷ [])) ≡ 0 = ap (λ k. lacks (place_of k (order ++ t ∷ []))) is ∙ ap lacks (place_push_new t order none) in
    let was : lacks (place_of n order) ≡ 1 = ap (λ k. lacks (place_of k order)) is ∙ ap lacks none in
    let rest = unlisted_above n t order (omega arith) in
    omega (arith, now, was, rest)
unlisted_at n t order false test below none fewer =
    let other : n ≡ t → ⊥ = λ e. let f : true ≡ false = sym (eq-eqb n t e) ∙ test in cc in
    let apart : t < n = omega arith in
    let same : lacks (place_of n (order ++ t ∷ [])) ≡ lacks (place_of n order) = ap lacks (place_push_other n t order (λ e. other (sym e))) in
    omega (arith, same, fewer apart)

-- a number that gets a place is one fewer without
pub unlisted_less : (n t : ℕ) (order : List ℕ) → t < n → place_of t order ≡ None → unlisted n (order ++ t ∷ []) + 1 ≡ unlisted n order
unfolding unlisted
unlisted_less zero t order below none = absurd (omega arith)
unlisted_less (suc n) t order below none = unlisted_at n t order (nat_eq n t) refl below none (λ apart. unlisted_less n t order apart none)

pub walking_lacks : (nodes : List Node) (root : ℕ) (stack order : List ℕ) (t : ℕ) (table : ℕ → Option ℕ) → IsWalking nodes root (stack ++ t ∷ []) order table → place_of t order ≡ None
walking_lacks nodes root stack order t table w = (falls_top (root + 1) stack t order w.falls).1

-- the root stands last
pub walk_ends : (nodes : List Node) (root : ℕ) → (front : List ℕ) × (post_order nodes root ≡ front ++ root ∷ [])
walk_ends nodes root = (fold (walk nodes root) [] (names nodes root), walk_step nodes root [] root)
