-- Images of diagrams among scratch nodes.
use Rattle.std.proofs.Common.{◌≡◌, ℕ, zero, suc, ◌+◌, ◌<◌, ◌≤◌, Bool, true, false, List, [], ◌∷◌, ◌++◌, length, get_or, refl, sym, ap, ◌∙◌, subst, inl, inr, arith}
use Rattle.std.specs.Prelude.{Some, cond, slice_index_or}
use Rattle.std.proofs.lemmas.Bool.{cases_eq, cond-true, cond-false}
use Rattle.std.proofs.lemmas.List.{length_push}
use Rattle.std.proofs.lemmas.Option.{slice_get-get_or}
use Rattle.std.proofs.Math.Logic.{∥∥₁_elim}
use Rattle.std.proofs.Props.{props}
use Rattle.diagram_store.specs.declared.branch.Branch.{Branch}
use Rattle.diagram_store.specs.Nodes.{node_at, IsAbove, IsReduced}
use Rattle.diagram_store.specs.Meaning.{value_at, set_bit}
use Rattle.diagram_store.specs.Canonical.{IsWalked, constant, again, leaves, IsCanonical}
use Rattle.diagram_store.proofs.CallerLemmas.{node_within, value_at_node, value_at_end, set_same, set_other}
use Rattle.diagram_ops.specs.private.Scratch.{Keeps, Stands, IsChoice}
use Rattle.diagram_ops.specs.private.Images.{IsImage, IsValue, IsRestricted}
use Rattle.diagram_ops.proofs.KeepingLemmas.{same_cond, keeps_same, stands_kept}

get_old : (xs : List ℕ) (y k : ℕ) → k < length xs → get_or (xs ++ y ∷ []) k 0 ≡ get_or xs k 0
get_old [] y k h = absurd (omega arith)
get_old (x ∷ xs) y zero h = refl
get_old (x ∷ xs) y (suc k) h = get_old xs y k (omega arith)

get_new : (xs : List ℕ) (y k : ℕ) → k ≡ length xs → get_or (xs ++ y ∷ []) k 0 ≡ y
get_new [] y k h = ap (λ i. get_or (y ∷ []) i 0) h
get_new (x ∷ xs) y zero h = absurd (omega arith)
get_new (x ∷ xs) y (suc k) h = get_new xs y k (omega arith)

constants_stand : (nodes : List Branch) (meaning : ℕ → (ℕ → Bool) → Bool → Type 0) (scratch : List Branch) → ((bits : ℕ → Bool) → meaning 0 bits false) → ((bits : ℕ → Bool) → meaning 1 bits true)
    → (r : ℕ) → r < 2 → Stands scratch (slice_index_or (0 ∷ 1 ∷ []) r 0) (meaning r) (λ v. IsAbove nodes v r)
constants_stand nodes meaning scratch never always zero w = record {
  within = omega arith;
  means = λ bits. let M : Bool → Type 0 = meaning 0 bits in subst M (sym (value_at_end scratch 0 bits refl)) (never bits);
  above = λ v h n e. cc;
}
constants_stand nodes meaning scratch never always (suc zero) w = record {
  within = omega arith;
  means = λ bits. let M : Bool → Type 0 = meaning 1 bits in subst M (sym (value_at_end scratch 1 bits refl)) (always bits);
  above = λ v h n e. cc;
}
constants_stand nodes meaning scratch never always (suc (suc k)) w = absurd (omega arith)

module _ (nodes : List Branch) (meaning : ℕ → (ℕ → Bool) → Bool → Type 0) where
  pub image_kept : (old new : List Branch) (places : List ℕ) → IsReduced new → Keeps old new → IsImage nodes meaning old places → IsImage nodes meaning new places
  image_kept old new places all k i = record {
    reduced = all;
    each = λ r w. stands_kept old i.reduced new all k (slice_index_or places r 0) (meaning r) (λ v. IsAbove nodes v r) (i.each r w);
  }

  pub image_push : (scratch : List Branch) (places : List ℕ) (p r : ℕ) → r ≡ length places → IsImage nodes meaning scratch places → Stands scratch p (meaning r) (λ v. IsAbove nodes v r)
      → IsImage nodes meaning scratch (places ++ p ∷ [])
  image_push scratch places p r is i new = record {
    reduced = i.reduced;
    each = λ k w. elim (cases_eq k r) [
      | inl e ↦
          let P : ℕ → Type 0 = λ j. Stands scratch j (meaning k) (λ v. IsAbove nodes v k) in
          let Q : ℕ → Type 0 = λ j. Stands scratch p (meaning j) (λ v. IsAbove nodes v j) in
          subst P (sym (get_new places p k (e ∙ is))) (subst Q (sym e) new)
      | inr apart ↦
          let count : length (places ++ p ∷ []) ≡ length places + 1 = length_push places p in
          let below : k < length places = omega arith in
          let P : ℕ → Type 0 = λ j. Stands scratch j (meaning k) (λ v. IsAbove nodes v k) in
          subst P (sym (get_old places p k below)) (i.each k below)
    ];
  }

  -- the constants, which stand for themselves
  pub image_first : (scratch : List Branch) (places : List ℕ) → IsReduced scratch → places ≡ 0 ∷ 1 ∷ [] → ((bits : ℕ → Bool) → meaning 0 bits false) → ((bits : ℕ → Bool) → meaning 1 bits true)
      → IsImage nodes meaning scratch places
  image_first scratch places all is never always =
      let P : List ℕ → Type 0 = λ l. IsImage nodes meaning scratch l in
      subst P (sym is) (record { reduced = all; each = constants_stand nodes meaning scratch never always })

-- a node of a list is at the reference past the constants
pub node_of_list : (nodes : List Branch) (k : ℕ) (d : Branch) → k < length nodes → node_at nodes (k + 2) ≡ Some (get_or nodes k d)
node_of_list nodes k d w = let is : k + 2 ≡ suc (suc k) = omega arith in ap (node_at nodes) is ∙ slice_get-get_or nodes k d w

module _ (nodes : List Branch) (whole : IsReduced nodes) (r : ℕ) (n : Branch) (at : node_at nodes r ≡ Some n)
    (old : List Branch) (places : List ℕ) (room : r ≤ length places) where
  pub low_placed : n.low < length places
  low_placed = let before = whole.earlier r n at in omega (arith, before.0)

  pub high_placed : n.high < length places
  high_placed = let before = whole.earlier r n at in omega (arith, before.1)

  -- as the code reads the places of the branches
  module _ (meaning : ℕ → (ℕ → Bool) → Bool → Type 0) (i : IsImage nodes meaning old places)
      (low high : ℕ) (low_is : low ≡ slice_index_or places n.low 0) (high_is : high ≡ slice_index_or places n.high 0) where
    low_stands : Stands old low (meaning n.low) (λ v. IsAbove nodes v n.low)
    low_stands = let P : ℕ → Type 0 = λ j. Stands old j (meaning n.low) (λ v. IsAbove nodes v n.low) in subst P (sym low_is) (i.each n.low low_placed)

    high_stands : Stands old high (meaning n.high) (λ v. IsAbove nodes v n.high)
    high_stands = let P : ℕ → Type 0 = λ j. Stands old j (meaning n.high) (λ v. IsAbove nodes v n.high) in subst P (sym high_is) (i.each n.high high_placed)

    pub low_within : low < length old + 2
    low_within = low_stands.within

    pub high_within : high < length old + 2
    high_within = high_stands.within

    pub low_above : IsAbove old n.var low
    low_above = low_stands.above n.var (whole.rises r n at).0

    pub high_above : IsAbove old n.var high
    high_above = high_stands.above n.var (whole.rises r n at).1

    -- a reference that is made of those of the branches, by their meanings
    pub made_means : (new : List Branch) → IsReduced new → Keeps old new → (p : ℕ) → p < length new + 2 → ((u : ℕ) → u < n.var → IsAbove new u p)
        → ((bits : ℕ → Bool) (b l h : Bool) → b ≡ value_at new p bits → l ≡ value_at new low bits → h ≡ value_at new high bits → meaning n.low bits l → meaning n.high bits h → meaning r bits b)
        → Stands new p (meaning r) (λ v. IsAbove nodes v r)
    made_means new all k p within above by = record {
      within = within;
      means = λ bits.
          let l = stands_kept old i.reduced new all k low (meaning n.low) (λ v. IsAbove nodes v n.low) low_stands in
          let h = stands_kept old i.reduced new all k high (meaning n.high) (λ v. IsAbove nodes v n.high) high_stands in
          by bits (value_at new p bits) (value_at new low bits) (value_at new high bits) refl refl refl (l.means bits) (h.means bits);
      above = λ v h. above v (h n at);
    }

    -- the choice by the meanings of the branches
    pub choice_means : (new : List Branch) → IsReduced new → Keeps old new → (p : ℕ) → Stands new p (IsChoice new n.var low high) (λ u. u < n.var)
        → ((bits : ℕ → Bool) (b l h : Bool) → meaning n.low bits l → meaning n.high bits h → b ≡ cond (bits n.var) h l → meaning r bits b)
        → Stands new p (meaning r) (λ v. IsAbove nodes v r)
    choice_means new all k p stands by =
        made_means new all k p stands.within stands.above
        (λ bits b l h eb el eh ml mh. by bits b l h ml mh (eb ∙ stands.means bits ∙ same_cond (bits n.var) (value_at new high bits) (value_at new low bits) h l (sym eh) (sym el)))

pub value_by : (nodes : List Branch) → IsReduced nodes → (r : ℕ) (n : Branch) → node_at nodes r ≡ Some n
    → (bits : ℕ → Bool) (b low high : Bool) → IsValue nodes n.low bits low → IsValue nodes n.high bits high → b ≡ cond (bits n.var) high low → IsValue nodes r bits b
value_by nodes whole r n at bits b low high l h is =
    is ∙ same_cond (bits n.var) high low (value_at nodes n.high bits) (value_at nodes n.low bits) h l ∙ sym (value_at_node nodes whole r n bits at)

-- the root of a diagram has a place
pub root_placed : (nodes : List Branch) (root count : ℕ) → root < length nodes + 2 → count ≡ length nodes + 2 → root < count
root_placed nodes root count w e = omega arith

pub stands_at : (scratch : List Branch) (meaning : (ℕ → Bool) → Bool → Type 0) (before : ℕ → Type 0) (p q : ℕ) → p ≡ q → Stands scratch q meaning before → Stands scratch p meaning before
stands_at scratch meaning before p q e s = let P : ℕ → Type 0 = λ j. Stands scratch j meaning before in subst P (sym e) s

-- a walk goes from a reference to the nodes
walk_within : (nodes left : List Branch) (r : ℕ) (after : List Branch) → IsWalked nodes left r after → r < length nodes + 2
walk_within nodes left r after (constant small) = omega arith
walk_within nodes left r after (again {n = n} at is) = (node_within nodes r n at).1
walk_within nodes left r next (leaves {n = n} at low high) = (node_within nodes r n at).1

pub root_within : (nodes : List Branch) (root : ℕ) → IsCanonical root nodes → root < length nodes + 2
root_within nodes root c = ∥∥₁_elim c.post_order (hlevel props) (walk_within nodes [] root nodes)

-- the image of the root, as the code reads it
pub root_stands : (meaning : List Branch → ℕ → (ℕ → Bool) → Bool → Type 0) (view nodes : List Branch) (scratch : List Branch) (places list : List ℕ) (root p k : ℕ) → view ≡ nodes → IsCanonical root nodes
    → IsImage view (meaning view) scratch places → length places ≡ k + 2 → length view ≤ k → list ≡ places → p ≡ get_or list root 0
    → Stands scratch p (meaning nodes root) (λ v. IsAbove nodes v root)
root_stands meaning view nodes scratch places list root p k e c i count all f g =
    let w = root_within nodes root c in
    let same : length view ≡ length nodes = ap length e in
    let placed : root < length places = omega (arith, w) in
    let Q : List Branch → Type 0 = λ l. Stands scratch (get_or places root 0) (meaning l root) (λ v. IsAbove l v root) in
    stands_at scratch (meaning nodes root) (λ v. IsAbove nodes v root) p (get_or places root 0) (g ∙ ap (λ l. get_or l root 0) f) (subst Q e (i.each root placed))

pub restricted_by : (nodes : List Branch) → IsReduced nodes → (var : ℕ) (value : Bool) (r : ℕ) (n : Branch) → node_at nodes r ≡ Some n → (n.var ≡ var → ⊥)
    → (bits : ℕ → Bool) (b low high : Bool) → IsRestricted nodes var value n.low bits low → IsRestricted nodes var value n.high bits high → b ≡ cond (bits n.var) high low → IsRestricted nodes var value r bits b
restricted_by nodes whole var value r n at apart bits b low high l h is =
    is
    ∙ same_cond (bits n.var) high low (value_at nodes n.high (set_bit bits var value)) (value_at nodes n.low (set_bit bits var value)) h l
    ∙ ap (λ t. cond t (value_at nodes n.high (set_bit bits var value)) (value_at nodes n.low (set_bit bits var value))) (sym (set_other bits var value n.var apart))
    ∙ sym (value_at_node nodes whole r n (set_bit bits var value) at)

-- the branch that the restriction takes
pub restricted_to : (nodes : List Branch) → IsReduced nodes → (var : ℕ) (value : Bool) (r : ℕ) (n : Branch) → node_at nodes r ≡ Some n → n.var ≡ var → (bits : ℕ → Bool) (b : Bool)
    → b ≡ cond value (value_at nodes n.high (set_bit bits var value)) (value_at nodes n.low (set_bit bits var value)) → IsRestricted nodes var value r bits b
restricted_to nodes whole var value r n at is bits b e =
    e
    ∙ ap (λ t. cond t (value_at nodes n.high (set_bit bits var value)) (value_at nodes n.low (set_bit bits var value))) (sym (ap (set_bit bits var value) is ∙ set_same bits var value))
    ∙ sym (value_at_node nodes whole r n (set_bit bits var value) at)

module _ (nodes : List Branch) (whole : IsReduced nodes) (r : ℕ) (n : Branch) (at : node_at nodes r ≡ Some n)
    (old : List Branch) (places : List ℕ) (room : r ≤ length places) (var : ℕ) (value : Bool) (i : IsImage nodes (IsRestricted nodes var value) old places)
    (low high : ℕ) (low_is : low ≡ slice_index_or places n.low 0) (high_is : high ≡ slice_index_or places n.high 0) (is : n.var ≡ var) where
  earlier_above : (u q : ℕ) → u < n.var → IsAbove old n.var q → IsAbove old u q
  earlier_above u q h above m e = let up : n.var < m.var = above m e in omega arith

  -- the place of the branch that the restriction takes
  pub takes_high : value ≡ true → Stands old high (IsRestricted nodes var value r) (λ v. IsAbove nodes v r)
  takes_high v =
      made_means nodes whole r n at old places room (IsRestricted nodes var value) i low high low_is high_is old i.reduced (keeps_same old) high
      (high_within nodes whole r n at old places room (IsRestricted nodes var value) i low high low_is high_is)
      (λ u h. earlier_above u high h (high_above nodes whole r n at old places room (IsRestricted nodes var value) i low high low_is high_is))
      (λ bits b l h eb el eh ml mh.
      restricted_to nodes whole var value r n at is bits b
      (eb ∙ sym eh ∙ mh ∙ sym (cond-true value (value_at nodes n.high (set_bit bits var value)) (value_at nodes n.low (set_bit bits var value)) v)))

  pub takes_low : value ≡ false → Stands old low (IsRestricted nodes var value r) (λ v. IsAbove nodes v r)
  takes_low v =
      made_means nodes whole r n at old places room (IsRestricted nodes var value) i low high low_is high_is old i.reduced (keeps_same old) low
      (low_within nodes whole r n at old places room (IsRestricted nodes var value) i low high low_is high_is)
      (λ u h. earlier_above u low h (low_above nodes whole r n at old places room (IsRestricted nodes var value) i low high low_is high_is))
      (λ bits b l h eb el eh ml mh.
      restricted_to nodes whole var value r n at is bits b
      (eb ∙ sym el ∙ ml ∙ sym (cond-false value (value_at nodes n.high (set_bit bits var value)) (value_at nodes n.low (set_bit bits var value)) v)))
