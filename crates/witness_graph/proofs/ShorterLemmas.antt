-- Nodes made shorter one after another.
use Rattle.std.proofs.Common.{◌≡◌, ◌⊎◌, inl, inr, ℕ, zero, suc, ◌+◌, ◌<◌, ◌≤◌, Bool, true, false, List, [], ◌∷◌, ◌++◌, length, take, drop, get_or, Option, Some, None, refl, sym, ap, subst, ◌∙◌, append-nil, append_assoc, arith}
use Rattle.std.specs.Prelude.{IfSome, slice_get, slice_index_or, cond, ◌-◌, unwrap_or, nat_lt, IsTrue}
use Rattle.std.proofs.lemmas.Bool.{ltb-true, ltb-false}
use Rattle.std.proofs.lemmas.Option.{slice_get-get_or}
use Rattle.std.proofs.lemmas.List.{length-append, length-take-le, take_more, drop_more}
use Rattle.witness_graph.specs.declared.node.Node.{Node}
use Rattle.witness_graph.specs.declared.node.Node.TheVariants.{Start, Lower}
use Rattle.witness_graph.specs.declared.node.Side.{Side}
use Rattle.witness_graph.specs.Nodes.{EachNamed, AreNodes, IsNodeAt, is_orderly}
use Rattle.witness_graph.specs.Runs.{runs_of, runs_over}
use Rattle.witness_graph.proofs.NodeLemmas.{each_earlier, orderly_from, nodes_push}
use Rattle.witness_graph.proofs.RunLemmas.{runs_of-push_old, runs_of-push_new}
use Rattle.witness_graph.specs.Shorter.{BeginsEmpty, pruned, only_part, stand, by_stands, shorten, made_short}
use Rattle.witness_graph.proofs.PartLemmas.{over_shorter, over_only, named_stands, named_pruned, named_only, shorter_part, SameBefore, before_shorter}

-- ---- lists of numbers, one more at a time

at_old : (xs : List ℕ) (x k d : ℕ) → k < length xs → slice_index_or (xs ++ x ∷ []) k d ≡ slice_index_or xs k d
at_old [] x k d h = absurd (omega arith)
at_old (y ∷ ys) x zero d h = refl
at_old (y ∷ ys) x (suc k) d h = at_old ys x k d (omega arith)

at_new : (xs : List ℕ) (x k d : ℕ) → k ≡ length xs → slice_index_or (xs ++ x ∷ []) k d ≡ x
at_new [] x zero d h = refl
at_new [] x (suc k) d h = absurd (omega arith)
at_new (y ∷ ys) x zero d h = absurd (omega arith)
at_new (y ∷ ys) x (suc k) d h = at_new ys x k d (omega arith)

old_or_new : (k l : ℕ) → k < l + 1 → (k < l) ⊎ (k ≡ l)
old_or_new k l h = go (nat_lt k l) refl
  where
    go : (b : Bool) → nat_lt k l ≡ b → (k < l) ⊎ (k ≡ l)
    go true e = inl (ltb-true k l e)
    go false e = inr (omega (arith, ltb-false k l e))

-- ---- what holds of the nodes so far

pub record IsShort (g : ℕ) (side : Side) (pre new : List Node) (stands : List ℕ) : Type 0 where
  pub known : AreNodes pre
  pub new_len : length new ≡ length pre
  pub stands_len : g + length stands ≡ length pre
  pub valid : AreNodes new
  pub low : (k : ℕ) → k < length pre → stand g stands k ≤ k
  pub same : (k : ℕ) → k < length pre → runs_of side new k ≡ runs_of side pre k
  pub stood : (k : ℕ) → k < length pre → runs_of side new (stand g stands k) ≡ runs_of side pre k
  pub empty : g < length pre → runs_of side new g ≡ [] ∷ []
  pub before : (k : ℕ) (n m : Node) → slice_get pre k ≡ Some n → slice_get new k ≡ Some m → SameBefore (stand g stands) n m

-- ---- nodes, one more at a time

pub get_within : (xs : List Node) (k : ℕ) (x : Node) → slice_get xs k ≡ Some x → k < length xs
get_within [] k x e = cc
get_within (y ∷ ys) zero x e = omega arith
get_within (y ∷ ys) (suc k) x e = let h = get_within ys k x e in omega arith

get_push : (xs : List Node) (x : Node) (k : ℕ) (y : Node) → slice_get (xs ++ x ∷ []) k ≡ Some y → (slice_get xs k ≡ Some y) ⊎ ((k ≡ length xs) × (x ≡ y))
get_push [] x zero y e = inr (refl, cc)
get_push [] x (suc k) y e = cc
get_push (z ∷ zs) x zero y e = inl e
get_push (z ∷ zs) x (suc k) y e = go (get_push zs x k y e)
  where
    go : (slice_get zs k ≡ Some y) ⊎ ((k ≡ length zs) × (x ≡ y)) → (slice_get zs k ≡ Some y) ⊎ ((suc k ≡ length (z ∷ zs)) × (x ≡ y))
    go (inl f) = inl f
    go (inr f) = inr (omega (arith, f.0), f.1)

past : (g l : ℕ) → g ≤ l → (l ≡ g → ⊥) → g < l
past g l low differs = go (nat_lt g l) refl
  where
    go : (b : Bool) → nat_lt g l ≡ b → g < l
    go true e = ltb-true g l e
    go false e = absurd (differs (omega (arith, ltb-false g l e)))

some_weaker : (P Q : ℕ → Type 0) → ((j : ℕ) → P j → Q j) → (o : Option ℕ) → IfSome o P → IfSome o Q
some_weaker P Q f None h = tt
some_weaker P Q f (Some j) h = f j h

pub named_weaker : (P Q : ℕ → Type 0) → ((j : ℕ) → P j → Q j) → (n : Node) → EachNamed P n → EachNamed Q n
named_weaker P Q f Start e = tt
named_weaker P Q f (Lower b r x y) e = (some_weaker P Q f b e.0, some_weaker P Q f x e.1, some_weaker P Q f y e.2)

stays_before : (f g : ℕ → ℕ) (x m : Node) → EachNamed (λ j. f j ≡ g j) x → SameBefore f x m → SameBefore g x m
stays_before f g Start Start e h = tt
stays_before f g Start (Lower b r x y) e h = absurd h
stays_before f g (Lower None r x y) Start e h = absurd h
stays_before f g (Lower (Some b) r x y) Start e h = absurd h
stays_before f g (Lower None r x y) (Lower None r' x' y') e h = tt
stays_before f g (Lower None r x y) (Lower (Some c) r' x' y') e h = absurd h
stays_before f g (Lower (Some b) r x y) (Lower None r' x' y') e h = absurd h
stays_before f g (Lower (Some b) r x y) (Lower (Some c) r' x' y') e h = h ∙ e.0

-- the runs of one more node
shorter_over : (g : ℕ) (side : Side) (pre new : List Node) (stands : List ℕ) → IsShort g side pre new stands → (n : Node) → IsNodeAt (length pre) n → (length pre ≡ g → n ≡ Start)
    → runs_over side (runs_of side new) (pruned g (by_stands g stands n)) ≡ runs_over side (runs_of side pre) n
shorter_over g side pre new stands short Start fits begins = refl
shorter_over g side pre new stands short (Lower b r x y) fits begins =
    over_shorter g side (runs_of side new) (runs_of side pre) stands (Lower b r x y) (short.empty (past g (length pre) (let l = short.stands_len in omega arith) (λ z. let e = begins z in cc)))
    (named_weaker (λ j. j < length pre) (λ j. runs_of side new (stand g stands j) ≡ runs_of side pre j) short.stood (Lower b r x y) (each_earlier (length pre) (Lower b r x y) fits.orderly))

module _ (g : ℕ) (side : Side) (pre new : List Node) (stands : List ℕ) (short : IsShort g side pre new stands) (n : Node) (fits : IsNodeAt (length pre) n) (begins : length pre ≡ g → n ≡ Start) where
  abbrev pub next : Node
  next = pruned g (by_stands g stands n)

  abbrev pub stands_next : ℕ
  stands_next = unwrap_or (only_part next) (length new)

  named : EachNamed (λ j. j < length pre) next
  named = named_pruned g (λ j. j < length pre) (by_stands g stands n)
      (named_stands g (λ j. j < length pre) (λ j. j < length pre) stands (λ j h. let low = short.low j h in omega arith) n (each_earlier (length pre) n fits.orderly))

  pub next_fits : IsNodeAt (length new) next
  next_fits = record {
    orderly = subst (λ l. IsTrue (is_orderly l next)) (sym short.new_len) (orderly_from (length pre) next named);
    part = shorter_part g stands n fits.part;
  }

  -- its runs are those of the node that it is made of
  next_over : runs_over side (runs_of side new) next ≡ runs_over side (runs_of side pre) n
  next_over = shorter_over g side pre new stands short n fits begins

  next_runs : runs_of side (new ++ next ∷ []) (length pre) ≡ runs_of side (pre ++ n ∷ []) (length pre)
  next_runs =
      ap (runs_of side (new ++ next ∷ [])) (sym short.new_len)
      ∙ runs_of-push_new side new next
      ∙ next_over
      ∙ sym (runs_of-push_new side pre n)

  old_runs : (k : ℕ) → k < length pre → runs_of side (new ++ next ∷ []) k ≡ runs_of side new k
  old_runs k h = runs_of-push_old side new next k (omega (arith, short.new_len))

  -- what stands for it is an earlier node, or itself
  next_low : stands_next ≤ length pre
  next_low = go (only_part next) refl
    where
      go : (o : Option ℕ) → only_part next ≡ o → unwrap_or o (length new) ≤ length pre
      go None e = omega (arith, short.new_len)
      go (Some j) e = let h = named_only g (λ i. i < length pre) next j e named in omega arith

  next_stood : runs_of side (new ++ next ∷ []) stands_next ≡ runs_of side (pre ++ n ∷ []) (length pre)
  next_stood = go (only_part next) refl
    where
      go : (o : Option ℕ) → only_part next ≡ o → runs_of side (new ++ next ∷ []) (unwrap_or o (length new)) ≡ runs_of side (pre ++ n ∷ []) (length pre)
      go None e = ap (runs_of side (new ++ next ∷ [])) short.new_len ∙ next_runs
      go (Some j) e =
          old_runs j (named_only g (λ i. i < length pre) next j e named)
          ∙ sym (over_only g side (runs_of side new) next j e)
          ∙ next_over
          ∙ sym (runs_of-push_new side pre n)

  next_empty : runs_of side (new ++ next ∷ []) g ≡ [] ∷ []
  next_empty = go (nat_lt g (length pre)) refl
    where
      go : (b : Bool) → nat_lt g (length pre) ≡ b → runs_of side (new ++ next ∷ []) g ≡ [] ∷ []
      go true e = let some = ltb-true g (length pre) e in old_runs g some ∙ short.empty some
      go false e =
          let none : length pre ≡ g = omega (arith, ltb-false g (length pre) e, short.stands_len) in
          ap (runs_of side (new ++ next ∷ [])) (sym none ∙ sym short.new_len) ∙ runs_of-push_new side new next ∙ ap (λ x. runs_over side (runs_of side new) (pruned g (by_stands g stands x))) (begins none)

  stand_old : (k : ℕ) → k < length pre → stand g (stands ++ stands_next ∷ []) k ≡ stand g stands k
  stand_old k h = go (nat_lt k g) refl
    where
      go : (b : Bool) → nat_lt k g ≡ b → cond b k (slice_index_or (stands ++ stands_next ∷ []) (k - g) k) ≡ cond b k (slice_index_or stands (k - g) k)
      go true e = refl
      go false e = at_old stands stands_next (k - g) k (omega (arith, ltb-false k g e, short.stands_len))

  stand_new : (k : ℕ) → k ≡ length pre → stand g (stands ++ stands_next ∷ []) k ≡ stands_next
  stand_new k e = go (nat_lt k g) refl
    where
      go : (b : Bool) → nat_lt k g ≡ b → cond b k (slice_index_or (stands ++ stands_next ∷ []) (k - g) k) ≡ stands_next
      go true f = absurd (omega (arith, ltb-true k g f, short.stands_len, e))
      go false f = at_new stands stands_next (k - g) k (omega (arith, e, short.stands_len))

  pub is_next : IsShort g side (pre ++ n ∷ []) (new ++ next ∷ []) (stands ++ stands_next ∷ [])
  is_next =
      let more = length-append pre (n ∷ []) in
      record {
        new_len = omega (arith, length-append new (next ∷ []), more, short.new_len);
        stands_len = omega (arith, length-append stands (stands_next ∷ []), more, short.stands_len);
        valid = nodes_push new next short.valid next_fits;
        low = λ k h. low_of k (old_or_new k (length pre) (omega (arith, more)));
        same = λ k h. same_of k (old_or_new k (length pre) (omega (arith, more)));
        stood = λ k h. stood_of k (old_or_new k (length pre) (omega (arith, more)));
        empty = λ some. next_empty;
        known = nodes_push pre n short.known fits;
        before = λ k x m e f. before_of k x m (get_push pre n k x e) (get_push new next k m f);
      }
    where
      low_of : (k : ℕ) → (k < length pre) ⊎ (k ≡ length pre) → stand g (stands ++ stands_next ∷ []) k ≤ k
      low_of k (inl old) = subst (λ v. v ≤ k) (sym (stand_old k old)) (short.low k old)
      low_of k (inr new_one) = subst (λ v. v ≤ k) (sym (stand_new k new_one)) (omega (arith, next_low))

      same_of : (k : ℕ) → (k < length pre) ⊎ (k ≡ length pre) → runs_of side (new ++ next ∷ []) k ≡ runs_of side (pre ++ n ∷ []) k
      same_of k (inl old) = old_runs k old ∙ short.same k old ∙ sym (runs_of-push_old side pre n k old)
      same_of k (inr new_one) = subst (λ v. runs_of side (new ++ next ∷ []) v ≡ runs_of side (pre ++ n ∷ []) v) (sym new_one) next_runs

      stood_of : (k : ℕ) → (k < length pre) ⊎ (k ≡ length pre) → runs_of side (new ++ next ∷ []) (stand g (stands ++ stands_next ∷ []) k) ≡ runs_of side (pre ++ n ∷ []) k
      stood_of k (inl old) =
          ap (runs_of side (new ++ next ∷ [])) (stand_old k old)
          ∙ old_runs (stand g stands k) (let low = short.low k old in omega arith)
          ∙ short.stood k old
          ∙ sym (runs_of-push_old side pre n k old)
      stood_of k (inr new_one) =
          ap (runs_of side (new ++ next ∷ [])) (stand_new k new_one)
          ∙ next_stood
          ∙ ap (runs_of side (pre ++ n ∷ [])) (sym new_one)

      still : (k : ℕ) (x : Node) → k ≤ length pre → EachNamed (λ j. j < k) x → EachNamed (λ j. stand g stands j ≡ stand g (stands ++ stands_next ∷ []) j) x
      still k x h e = named_weaker (λ j. j < k) (λ j. stand g stands j ≡ stand g (stands ++ stands_next ∷ []) j) (λ j l. sym (stand_old j (omega arith))) x e

      before_of : (k : ℕ) (x m : Node) → (slice_get pre k ≡ Some x) ⊎ ((k ≡ length pre) × (n ≡ x)) → (slice_get new k ≡ Some m) ⊎ ((k ≡ length new) × (next ≡ m)) → SameBefore (stand g (stands ++ stands_next ∷ [])) x m
      before_of k x m (inl e) (inl f) =
          let within = get_within pre k x e in
          stays_before (stand g stands) (stand g (stands ++ stands_next ∷ [])) x m (still k x (omega arith) (each_earlier k x (short.known.each k x e).orderly)) (short.before k x m e f)
      before_of k x m (inl e) (inr f) = let within = get_within pre k x e in absurd (omega (arith, short.new_len, f.0))
      before_of k x m (inr e) (inl f) = let within = get_within new k m f in absurd (omega (arith, short.new_len, e.0))
      before_of k x m (inr e) (inr f) =
          let here = stays_before (stand g stands) (stand g (stands ++ stands_next ∷ [])) n next (still (length pre) n (omega arith) (each_earlier (length pre) n fits.orderly)) (before_shorter g stands n) in
          subst (λ y. SameBefore (stand g (stands ++ stands_next ∷ [])) y m) e.1 (subst (λ y. SameBefore (stand g (stands ++ stands_next ∷ [])) n y) f.1 here)

-- ---- all nodes, one after another

get_middle : (pre : List Node) (n : Node) (ns : List Node) → slice_get (pre ++ n ∷ ns) (length pre) ≡ Some n
get_middle [] n ns = refl
get_middle (x ∷ xs) n ns = get_middle xs n ns

-- the node with number `g` among these is the empty run
abbrev pub StandsFirst : ℕ → List Node → Type 0
StandsFirst g nodes = (n : Node) → slice_get nodes g ≡ Some n → n ≡ Start

pub all_short : (g : ℕ) (side : Side) (ns pre new : List Node) (stands : List ℕ) → IsShort g side pre new stands → AreNodes (pre ++ ns) → StandsFirst g (pre ++ ns)
    → IsShort g side (pre ++ ns) (shorten g new stands ns).0 (shorten g new stands ns).1
all_short g side [] pre new stands short nodes begins = subst (λ l. IsShort g side l new stands) (sym (append-nil pre)) short
all_short g side (n ∷ ns) pre new stands short nodes begins =
    let fits = nodes.each (length pre) n (get_middle pre n ns) in
    let first : length pre ≡ g → n ≡ Start = λ z. begins n (subst (λ k. slice_get (pre ++ n ∷ ns) k ≡ Some n) z (get_middle pre n ns)) in
    let more = is_next g side pre new stands short n fits first in
    let joined = append_assoc pre (n ∷ []) ns in
    let m = pruned g (by_stands g stands n) in
    subst (λ l. IsShort g side l (shorten g new stands (n ∷ ns)).0 (shorten g new stands (n ∷ ns)).1) joined
    (all_short g side ns (pre ++ n ∷ []) (new ++ m ∷ []) (stands ++ unwrap_or (only_part m) (length new) ∷ []) more (subst AreNodes (sym joined) nodes) (subst (StandsFirst g) (sym joined) begins))

-- ---- the graph's nodes to begin with

pub stand_low : (g : ℕ) (stands : List ℕ) (j : ℕ) → j < g → stand g stands j ≡ j
stand_low g stands j h = go (nat_lt j g) refl
  where
    go : (b : Bool) → nat_lt j g ≡ b → cond b j (slice_index_or stands (j - g) j) ≡ j
    go true e = refl
    go false e = absurd (omega (arith, ltb-false j g e))

same_self : (f : ℕ → ℕ) (n : Node) → EachNamed (λ j. f j ≡ j) n → SameBefore f n n
same_self f Start e = tt
same_self f (Lower None r x y) e = tt
same_self f (Lower (Some b) r x y) e = sym e.0

some_equal : (x y : Node) → Some x ≡ Some y → x ≡ y
some_equal x y e = cc

get_first : (pre : List Node) (added : List Node) → BeginsEmpty added → StandsFirst (length pre) (pre ++ added)
get_first [] added (more, is) n e = cc
get_first (x ∷ xs) added begins n e = get_first xs added begins n e

keeps_nodes : (pre more : List Node) → AreNodes (pre ++ more) → AreNodes pre
keeps_nodes pre more all = record { each = λ k n e. all.each k n (get_left pre more k n e) }
  where
    get_left : (xs ys : List Node) (k : ℕ) (n : Node) → slice_get xs k ≡ Some n → slice_get (xs ++ ys) k ≡ Some n
    get_left [] ys k n e = cc
    get_left (x ∷ xs) ys zero n e = e
    get_left (x ∷ xs) ys (suc k) n e = get_left xs ys k n e

pub nothing_short : (side : Side) (graph : List Node) → AreNodes graph → IsShort (length graph) side graph graph []
nothing_short side graph all = record {
  known = all;
  new_len = refl;
  stands_len = omega arith;
  valid = all;
  low = λ k h. subst (λ v. v ≤ k) (sym (stand_low (length graph) [] k h)) (omega arith);
  same = λ k h. refl;
  stood = λ k h. ap (runs_of side graph) (stand_low (length graph) [] k h);
  empty = λ h. absurd (omega arith);
  before = λ k n m e f.
      let within = get_within graph k n e in
      let is = some_equal n m (sym e ∙ f) in
      subst (SameBefore (stand (length graph) []) n) is
      (same_self (stand (length graph) []) n (named_weaker (λ j. j < k) (λ j. stand (length graph) [] j ≡ j) (λ j l. stand_low (length graph) [] j (omega arith)) n (each_earlier k n (all.each k n e).orderly)));
}

-- the graph's nodes and those that are added, made shorter
pub sum_short : (side : Side) (graph added : List Node) → AreNodes (graph ++ added) → BeginsEmpty added
    → IsShort (length graph) side (graph ++ added) (made_short graph added).0 (made_short graph added).1
sum_short side graph added all begins = all_short (length graph) side added graph graph [] (nothing_short side graph (keeps_nodes graph added all)) all (get_first graph added begins)

-- ---- what is made keeps what was there

shorten_keeps : (g : ℕ) (ns new : List Node) (stands : List ℕ) → (more : List Node) × ((shorten g new stands ns).0 ≡ new ++ more)
shorten_keeps g [] new stands = ([], sym (append-nil new))
shorten_keeps g (n ∷ ns) new stands =
    let m = pruned g (by_stands g stands n) in
    let rest = shorten_keeps g ns (new ++ m ∷ []) (stands ++ unwrap_or (only_part m) (length new) ∷ []) in
    (m ∷ rest.0, rest.1 ∙ append_assoc new (m ∷ []) rest.0)

pub graph_stays : (graph added : List Node) → (more : List Node) × ((made_short graph added).0 ≡ graph ++ more)
graph_stays graph added = shorten_keeps (length graph) added graph []

-- ---- one turn of a loop over the nodes that are added

get_right : (xs ys : List Node) (i : ℕ) → slice_get (xs ++ ys) (length xs + i) ≡ slice_get ys i
get_right [] ys i = let e : length {A = Node} [] + i ≡ i = omega arith in ap (slice_get ys) e
get_right (x ∷ xs) ys i = let e : length (x ∷ xs) + i ≡ suc (length xs + i) = omega arith in ap (slice_get (x ∷ (xs ++ ys))) e ∙ get_right xs ys i

first_start : (added : List Node) (i : ℕ) (d : Node) → BeginsEmpty added → i ≡ 0 → get_or added i d ≡ Start
first_start added i d (more, is) z = ap (λ l. get_or l i d) is ∙ ap (λ k. get_or (Start ∷ more) k d) z

module _ (side : Side) (graph added : List Node) (i : ℕ) (d : Node) (within : i < length added) (all : AreNodes (graph ++ added)) (begins : BeginsEmpty added)
    (new : List Node) (stands : List ℕ) (short : IsShort (length graph) side (graph ++ take i added) new stands) where
  abbrev turned : Node
  turned = pruned (length graph) (by_stands (length graph) stands (get_or added i d))

  taken : length (graph ++ take i added) ≡ length graph + i
  taken = omega (arith, length-append graph (take i added), length-take-le i added (omega arith))

  fits_here : IsNodeAt (length (graph ++ take i added)) (get_or added i d)
  fits_here = subst (λ k. IsNodeAt k (get_or added i d)) (sym taken) (all.each (length graph + i) (get_or added i d) (get_right graph added i ∙ slice_get-get_or added i d within))

  begins_here : length (graph ++ take i added) ≡ length graph → get_or added i d ≡ Start
  begins_here z = first_start added i d begins (omega (arith, taken, z))

  pub turn_fits : IsNodeAt (length new) turned
  turn_fits = next_fits (length graph) side (graph ++ take i added) new stands short (get_or added i d) fits_here begins_here

  pub turn_short : IsShort (length graph) side (graph ++ take (i + 1) added) (new ++ turned ∷ []) (stands ++ unwrap_or (only_part turned) (length new) ∷ [])
  turn_short =
      subst (λ l. IsShort (length graph) side l (new ++ turned ∷ []) (stands ++ unwrap_or (only_part turned) (length new) ∷ []))
      (append_assoc graph (take i added) (get_or added i d ∷ []) ∙ ap (λ l. graph ++ l) (sym (take_more added i d within)))
      (is_next (length graph) side (graph ++ take i added) new stands short (get_or added i d) fits_here begins_here)

  pub turn_rest : shorten (length graph) (new ++ turned ∷ []) (stands ++ unwrap_or (only_part turned) (length new) ∷ []) (drop (i + 1) added) ≡ shorten (length graph) new stands (drop i added)
  turn_rest = ap (shorten (length graph) new stands) (sym (drop_more added i d within))

pub same_short : (g : ℕ) (side other : Side) (pre new new' : List Node) (stands stands' : List ℕ) → side ≡ other → new ≡ new' → stands ≡ stands' → IsShort g side pre new stands → IsShort g other pre new' stands'
same_short g side other pre new new' stands stands' e f h short =
    let A : Side → Type 0 = λ x. IsShort g x pre new' stands' in
    let B : List Node → Type 0 = λ x. IsShort g side pre x stands' in
    let C : List ℕ → Type 0 = λ x. IsShort g side pre new x in
    subst A e (subst B f (subst C h short))

take_all : (xs : List Node) (i : ℕ) → length xs ≤ i → take i xs ≡ xs
take_all [] zero h = refl
take_all [] (suc i) h = refl
take_all (x ∷ xs) zero h = absurd (omega arith)
take_all (x ∷ xs) (suc i) h = ap (λ l. x ∷ l) (take_all xs i (omega arith))

pub whole_turn : (graph added : List Node) (i : ℕ) → length added ≤ i → graph ++ take i added ≡ graph ++ added
whole_turn graph added i h = ap (λ l. graph ++ l) (take_all added i h)
