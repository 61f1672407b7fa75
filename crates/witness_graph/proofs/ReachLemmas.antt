-- What is reached over nodes that are made shorter is reached over those that they are made of.
use Rattle.std.proofs.Common.{◌≡◌, ◌⊎◌, inl, inr, ℕ, zero, suc, ◌+◌, Bool, true, false, cond, List, [], ◌∷◌, ◌++◌, length, refl, sym, ap, subst, ◌∙◌, append-nil, arith}
use Rattle.std.specs.Prelude.{IfSome, Option, Some, None, option_to_list, slice_index_or, unwrap_or, nat_lt, ◌-◌}
use Rattle.std.proofs.lemmas.Bool.{ltb-false}
use Rattle.std.proofs.lemmas.List.{length-append}
use Rattle.witness_graph.specs.declared.node.Node.{Node}
use Rattle.witness_graph.specs.declared.node.Node.TheVariants.{Start, Lower}
use Rattle.witness_graph.specs.Nodes.{node_at, named, EachNamed}
use Rattle.witness_graph.specs.Order.{is_listed, Reaches, itself, along}
use Rattle.witness_graph.specs.Shorter.{pruned, only_part, stand, by_stands, shorten, made_short}
use Rattle.witness_graph.proofs.PartLemmas.{named_stands, named_pruned, named_only}
use Rattle.witness_graph.proofs.ListedLemmas.{listed_first, listed_more, first_or_more}

-- ---- lists, by what holds of their elements

at_push : {X : Type 0} (Q : X → Type 0) (xs : List X) (x : X) (k : ℕ) (d : X) → (k ≡ length xs → Q x) → Q (slice_index_or xs k d) → Q (slice_index_or (xs ++ x ∷ []) k d)
at_push Q [] x zero d new old = new refl
at_push Q [] x (suc k) d new old = old
at_push Q (y ∷ ys) x zero d new old = old
at_push Q (y ∷ ys) x (suc k) d new old = at_push Q ys x k d (λ e. new (omega (arith, e))) old

at_left : {X : Type 0} (Q : X → Type 0) (xs ys : List X) (k : ℕ) (d : X) → Q d → Q (slice_index_or (xs ++ ys) k d) → Q (slice_index_or xs k d)
at_left Q [] ys k d none all = none
at_left Q (x ∷ xs) ys zero d none all = all
at_left Q (x ∷ xs) ys (suc k) d none all = at_left Q xs ys k d none all

at_right : {X : Type 0} (xs ys : List X) (i : ℕ) (d : X) → slice_index_or (xs ++ ys) (length xs + i) d ≡ slice_index_or ys i d
at_right {X = X} [] ys i d = let e : length {A = X} [] + i ≡ i = omega arith in ap (λ k. slice_index_or ys k d) e
at_right (x ∷ xs) ys i d = let e : length (x ∷ xs) + i ≡ suc (length xs + i) = omega arith in ap (λ k. slice_index_or (x ∷ (xs ++ ys)) k d) e ∙ at_right xs ys i d

-- ---- the numbers that a node names, listed

module _ (P : ℕ → Type 0) where
  abbrev Holds : List ℕ → Type 0
  Holds xs = (k : ℕ) → is_listed xs k ≡ true → P k

  part_from : (o : Option ℕ) (xs : List ℕ) → Holds (option_to_list o ++ xs) → IfSome o P × Holds xs
  part_from None xs h = (tt, h)
  part_from (Some j) xs h = (h j (listed_first j xs), λ k e. h k (listed_more j xs k e))

  with_part : (o : Option ℕ) (xs : List ℕ) → IfSome o P → Holds xs → Holds (option_to_list o ++ xs)
  with_part None xs h hs k e = hs k e
  with_part (Some j) xs h hs k e = at (first_or_more j xs k e)
    where
      at : (j ≡ k) ⊎ (is_listed xs k ≡ true) → P k
      at (inl is) = subst P is h
      at (inr more) = hs k more

  named_from : (n : Node) → Holds (named n) → EachNamed P n
  named_from Start h = tt
  named_from (Lower b r x y) h =
      let one = part_from b (option_to_list x ++ option_to_list y) h in
      let two = part_from x (option_to_list y) one.1 in
      (one.0, two.0, (part_from y [] (subst Holds (sym (append-nil (option_to_list y))) two.1)).0)

  named_at : (n : Node) → EachNamed P n → Holds (named n)
  named_at Start h = λ k e. cc
  named_at (Lower b r x y) h =
      with_part b (option_to_list x ++ option_to_list y) h.0
      (with_part x (option_to_list y) h.1 (subst Holds (append-nil (option_to_list y)) (with_part y [] h.2 (λ k e. cc))))

  -- ---- what holds of all that is named by a node of which it holds

  abbrev IsClosed : List Node → Type 0
  IsClosed nodes = (k : ℕ) → P k → EachNamed P (node_at nodes k)

  reached_closed : (nodes : List Node) (root : ℕ) → IsClosed nodes → P root → (k : ℕ) → Reaches nodes root k → P k
  reached_closed nodes root closed h k itself = h
  reached_closed nodes root closed h k (along j k' r e) = named_at (node_at nodes j) (closed j (reached_closed nodes root closed h j r)) k e

  -- ---- and of what stands for such a node

  record IsClosedBy (g : ℕ) (new : List Node) (stands : List ℕ) : Type 0 where
    pub size : g + length stands ≡ length new
    pub stood : (k : ℕ) → P k → P (stand g stands k)
    pub closed : IsClosed new

  module _ (g : ℕ) (new : List Node) (stands : List ℕ) (short : IsClosedBy g new stands) (n : Node) (names : P (length new) → EachNamed P n) where
    abbrev shorter : Node
    shorter = pruned g (by_stands g stands n)

    abbrev stands_for : ℕ
    stands_for = unwrap_or (only_part shorter) (length new)

    shorter_names : P (length new) → EachNamed P shorter
    shorter_names h = named_pruned g P (by_stands g stands n) (named_stands g P P stands short.stood n (names h))

    stands_in : P (length new) → P stands_for
    stands_in h = go (only_part shorter) refl
      where
        go : (o : Option ℕ) → only_part shorter ≡ o → P (unwrap_or o (length new))
        go None e = h
        go (Some j) e = named_only g P shorter j e (shorter_names h)

    stood_next : (k : ℕ) → P k → P (stand g (stands ++ stands_for ∷ []) k)
    stood_next k h = go (nat_lt k g) refl (short.stood k h)
      where
        go : (b : Bool) → nat_lt k g ≡ b → P (cond b k (slice_index_or stands (k - g) k)) → P (cond b k (slice_index_or (stands ++ stands_for ∷ []) (k - g) k))
        go true e old = h
        go false e old =
            at_push P stands stands_for (k - g) k
            (λ last. let is : k ≡ length new = omega (arith, ltb-false k g e, last, short.size) in stands_in (subst P is h)) old

    closed_next : IsClosedBy g (new ++ shorter ∷ []) (stands ++ stands_for ∷ [])
    closed_next = record {
      size = omega (arith, length-append stands (stands_for ∷ []), length-append new (shorter ∷ []), short.size);
      stood = stood_next;
      closed = λ k h. at_push (EachNamed P) new shorter k Start (λ last. shorter_names (subst P last h)) (short.closed k h);
    }

  all_closed : (g : ℕ) (ns new : List Node) (stands : List ℕ) → IsClosedBy g new stands → ((i : ℕ) → P (length new + i) → EachNamed P (node_at ns i))
      → IsClosedBy g (shorten g new stands ns).0 (shorten g new stands ns).1
  all_closed g [] new stands short names = short
  all_closed g (n ∷ ns) new stands short names =
      let m = pruned g (by_stands g stands n) in
      all_closed g ns (new ++ m ∷ []) (stands ++ unwrap_or (only_part m) (length new) ∷ [])
      (closed_next g new stands short n (λ h. let e : length new ≡ length new + 0 = omega arith in names 0 (subst P e h)))
      (λ i h. let e : length (new ++ m ∷ []) + i ≡ length new + suc i = omega (arith, length-append new (m ∷ [])) in names (suc i) (subst P e h))

  none_closed : (graph : List Node) → IsClosed graph → IsClosedBy (length graph) graph []
  none_closed graph closed = record {
    size = omega arith;
    stood = λ k h. itself_stands k h (nat_lt k (length graph));
    closed = closed;
  }
    where
      itself_stands : (k : ℕ) → P k → (b : Bool) → P (cond b k (slice_index_or [] (k - length graph) k))
      itself_stands k h true = h
      itself_stands k h false = h

  sum_closed : (graph added : List Node) → IsClosed (graph ++ added) → IsClosedBy (length graph) (made_short graph added).0 (made_short graph added).1
  sum_closed graph added closed =
      all_closed (length graph) added graph [] (none_closed graph (λ k h. at_left (EachNamed P) graph added k Start tt (closed k h)))
      (λ i h. subst (EachNamed P) (at_right graph added i Start) (closed (length graph + i) h))

pub reached_before : (graph added : List Node) (root k : ℕ) → Reaches (made_short graph added).0 (stand (length graph) (made_short graph added).1 root) k → Reaches (graph ++ added) root k
reached_before graph added root k r =
    let made = made_short graph added in
    let P : ℕ → Type 0 = λ i. Reaches (graph ++ added) root i in
    let short = sum_closed P graph added (λ j h. named_from P (node_at (graph ++ added) j) (λ i e. along j i h e)) in
    reached_closed P made.0 (stand (length graph) made.1 root) short.closed (short.stood root itself) k r
