-- The runs of one node that is made shorter.
use Rattle.std.proofs.Common.{◌≡◌, ℕ, Bool, true, false, cond, ◌||◌, List, [], ◌∷◌, ◌++◌, map, Option, Some, None, refl, sym, ap, subst, ◌∙◌, append-nil}
use Rattle.std.specs.Prelude.{IfSome, is_some, nat_eq}
use Rattle.std.proofs.lemmas.Bool.{eqb-true}
use Rattle.witness_graph.specs.declared.node.Node.{Node}
use Rattle.witness_graph.specs.declared.node.Node.TheVariants.{Start, Lower}
use Rattle.witness_graph.specs.declared.node.Side.{Side}
use Rattle.witness_graph.specs.declared.node.Side.TheVariants.{Pre, Post}
use Rattle.witness_graph.specs.Nodes.{EachNamed, has_part}
use Rattle.witness_graph.specs.Runs.{concatenations, part_runs, earlier_runs, runs_over}
use Rattle.witness_graph.specs.Shorter.{but, pruned, only_part, stand, stand_for, by_stands}

abbrev Known : Type 0
Known = ℕ → List (List ℕ)

-- the sets before two nodes: both are missing, or the second is what stands for the first
abbrev pub SameBefore : (ℕ → ℕ) → Node → Node → Type 0
SameBefore f Start Start = Unit {0}
SameBefore f (Lower None r x y) (Lower None r' x' y') = Unit {0}
SameBefore f (Lower (Some b) r x y) (Lower (Some b') r' x' y') = b' ≡ f b
SameBefore f _ _ = ⊥

module _ (g : ℕ) where
  -- ---- what stands for the parts

  part_stand : (known : Known) (stands : List ℕ) (o : Option ℕ) → part_runs known (stand_for g stands o) ≡ part_runs (λ k. known (stand g stands k)) o
  part_stand known stands None = refl
  part_stand known stands (Some k) = refl

  earlier_stand : (known : Known) (stands : List ℕ) (o : Option ℕ) → earlier_runs known (stand_for g stands o) ≡ earlier_runs (λ k. known (stand g stands k)) o
  earlier_stand known stands None = refl
  earlier_stand known stands (Some k) = refl

  over_stands : (side : Side) (known : Known) (stands : List ℕ) (n : Node) → runs_over side known (by_stands g stands n) ≡ runs_over side (λ k. known (stand g stands k)) n
  over_stands side known stands Start = refl
  over_stands side known stands (Lower b r f s) = rw (earlier_stand known stands b, part_stand known stands f, part_stand known stands s) refl

  -- ---- the empty run left out

  part_first : (known : Known) → known g ≡ [] ∷ [] → (o : Option ℕ) → part_runs known (but g o) ≡ part_runs known o
  part_first known z None = refl
  part_first known z (Some j) = go (nat_eq j g) refl
    where
      go : (b : Bool) → nat_eq j g ≡ b → part_runs known (cond b None (Some j)) ≡ known j
      go true e = sym z ∙ ap known (sym (eqb-true j g e))
      go false e = refl

  over_pruned : (side : Side) (known : Known) → known g ≡ [] ∷ [] → (n : Node) → runs_over side known (pruned g n) ≡ runs_over side known n
  over_pruned side known z Start = refl
  over_pruned side known z (Lower b r f s) = go (is_some r || (is_some (but g f) || is_some (but g s)))
    where
      go : (t : Bool) → runs_over side known (cond t (Lower b r (but g f) (but g s)) (Lower b r f s)) ≡ runs_over side known (Lower b r f s)
      go true = rw (part_first known z f, part_first known z s) refl
      go false = refl

  -- ---- known runs that agree

  part_agree : (known other : Known) (o : Option ℕ) → IfSome o (λ j. known j ≡ other j) → part_runs known o ≡ part_runs other o
  part_agree known other None e = refl
  part_agree known other (Some k) e = e

  earlier_agree : (known other : Known) (o : Option ℕ) → IfSome o (λ j. known j ≡ other j) → earlier_runs known o ≡ earlier_runs other o
  earlier_agree known other None e = refl
  earlier_agree known other (Some k) e = e

  over_agree : (side : Side) (known other : Known) (n : Node) → EachNamed (λ j. known j ≡ other j) n → runs_over side known n ≡ runs_over side other n
  over_agree side known other Start e = refl
  over_agree side known other (Lower b r f s) e = rw (earlier_agree known other b e.0, part_agree known other f e.1, part_agree known other s e.2) refl

  -- the runs of a shorter node
  pub over_shorter : (side : Side) (known other : Known) (stands : List ℕ) (n : Node) → known g ≡ [] ∷ [] → EachNamed (λ j. known (stand g stands j) ≡ other j) n
      → runs_over side known (pruned g (by_stands g stands n)) ≡ runs_over side other n
  over_shorter side known other stands n z e =
      over_pruned side known z (by_stands g stands n) ∙ over_stands side known stands n ∙ over_agree side (λ k. known (stand g stands k)) other n e

  -- ---- one part alone

  right_unit : (xs : List (List ℕ)) → concatenations xs ([] ∷ []) ≡ xs
  right_unit [] = refl
  right_unit (x ∷ xs) = ap (λ y. y ∷ concatenations xs ([] ∷ [])) (append-nil x) ∙ ap (λ l. x ∷ l) (right_unit xs)

  map_same : (xs : List (List ℕ)) → map (λ (b : List ℕ). [] ++ b) xs ≡ xs
  map_same [] = refl
  map_same (x ∷ xs) = ap (λ l. x ∷ l) (map_same xs)

  left_unit : (xs : List (List ℕ)) → concatenations ([] ∷ []) xs ≡ xs
  left_unit xs = append-nil (map (λ (b : List ℕ). [] ++ b) xs) ∙ map_same xs

  pub over_only : (side : Side) (known : Known) (n : Node) (j : ℕ) → only_part n ≡ Some j → runs_over side known n ≡ known j
  over_only side known Start j e = cc
  over_only side known (Lower (Some b) r f s) j e = cc
  over_only side known (Lower None (Some r) f s) j e = cc
  over_only side known (Lower None None None None) j e = cc
  over_only side known (Lower None None (Some f) (Some s)) j e = cc
  over_only Pre known (Lower None None (Some f) None) j e = let q : f ≡ j = cc in left_unit (concatenations (known f) ([] ∷ [])) ∙ right_unit (known f) ∙ ap known q
  over_only Post known (Lower None None (Some f) None) j e = let q : f ≡ j = cc in right_unit (known f) ∙ ap known q
  over_only Pre known (Lower None None None (Some s)) j e = let q : s ≡ j = cc in left_unit (concatenations ([] ∷ []) (known s)) ∙ left_unit (known s) ∙ ap known q
  over_only Post known (Lower None None None (Some s)) j e = let q : s ≡ j = cc in left_unit (concatenations (known s) ([] ∷ [])) ∙ right_unit (known s) ∙ ap known q

  -- ---- what a shorter node names

  some_stand : (P Q : ℕ → Type 0) (stands : List ℕ) → ((j : ℕ) → P j → Q (stand g stands j)) → (o : Option ℕ) → IfSome o P → IfSome (stand_for g stands o) Q
  some_stand P Q stands f None h = tt
  some_stand P Q stands f (Some k) h = f k h

  pub named_stands : (P Q : ℕ → Type 0) (stands : List ℕ) → ((j : ℕ) → P j → Q (stand g stands j)) → (n : Node) → EachNamed P n → EachNamed Q (by_stands g stands n)
  named_stands P Q stands f Start e = tt
  named_stands P Q stands f (Lower b r x y) e = (some_stand P Q stands f b e.0, some_stand P Q stands f x e.1, some_stand P Q stands f y e.2)

  some_first : (P : ℕ → Type 0) (o : Option ℕ) → IfSome o P → IfSome (but g o) P
  some_first P None h = tt
  some_first P (Some j) h = go (nat_eq j g)
    where
      go : (b : Bool) → IfSome (cond b None (Some j)) P
      go true = tt
      go false = h

  pub named_pruned : (P : ℕ → Type 0) (n : Node) → EachNamed P n → EachNamed P (pruned g n)
  named_pruned P Start e = tt
  named_pruned P (Lower b r f s) e = go (is_some r || (is_some (but g f) || is_some (but g s)))
    where
      go : (t : Bool) → EachNamed P (cond t (Lower b r (but g f) (but g s)) (Lower b r f s))
      go true = (e.0, some_first P f e.1, some_first P s e.2)
      go false = e

  pub named_only : (P : ℕ → Type 0) (n : Node) (j : ℕ) → only_part n ≡ Some j → EachNamed P n → P j
  named_only P Start j e h = cc
  named_only P (Lower (Some b) r f s) j e h = cc
  named_only P (Lower None (Some r) f s) j e h = cc
  named_only P (Lower None None None None) j e h = cc
  named_only P (Lower None None (Some f) (Some s)) j e h = cc
  named_only P (Lower None None (Some f) None) j e h = let q : f ≡ j = cc in subst P q h.1
  named_only P (Lower None None None (Some s)) j e h = let q : s ≡ j = cc in subst P q h.2

  -- ---- its parts are some

  some_stand_for : (stands : List ℕ) (o : Option ℕ) → is_some (stand_for g stands o) ≡ is_some o
  some_stand_for stands None = refl
  some_stand_for stands (Some k) = refl

  part_stands : (stands : List ℕ) (n : Node) → has_part (by_stands g stands n) ≡ has_part n
  part_stands stands Start = refl
  part_stands stands (Lower b r f s) = rw (some_stand_for stands f, some_stand_for stands s) refl

  part_pruned : (n : Node) → has_part n ≡ true → has_part (pruned g n) ≡ true
  part_pruned Start h = h
  part_pruned (Lower b r f s) h = go (is_some r || (is_some (but g f) || is_some (but g s))) refl
    where
      go : (t : Bool) → (is_some r || (is_some (but g f) || is_some (but g s))) ≡ t → has_part (cond t (Lower b r (but g f) (but g s)) (Lower b r f s)) ≡ true
      go true e = e
      go false e = h

  pub shorter_part : (stands : List ℕ) (n : Node) → has_part n ≡ true → has_part (pruned g (by_stands g stands n)) ≡ true
  shorter_part stands n h = part_pruned (by_stands g stands n) (part_stands stands n ∙ h)

  -- ---- its set before

  pub before_shorter : (stands : List ℕ) (n : Node) → SameBefore (stand g stands) n (pruned g (by_stands g stands n))
  before_shorter stands Start = tt
  before_shorter stands (Lower b r x y) = go (is_some r || (is_some (but g (stand_for g stands x)) || is_some (but g (stand_for g stands y)))) b
    where
      go : (t : Bool) (c : Option ℕ) → SameBefore (stand g stands) (Lower c r x y) (cond t (Lower (stand_for g stands c) r (but g (stand_for g stands x)) (but g (stand_for g stands y))) (Lower (stand_for g stands c) r (stand_for g stands x) (stand_for g stands y)))
      go true None = tt
      go false None = tt
      go true (Some c) = refl
      go false (Some c) = refl
