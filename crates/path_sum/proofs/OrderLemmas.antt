-- Products and paths that are longer by one.
use Rattle.std.proofs.Common.{◌≡◌, ℕ, List, [], ◌∷◌, ◌++◌, refl, sym, ap, ◌∙◌, subst, append_assoc}
use Rattle.std.proofs.lemmas.List.{append-nil}
use Rattle.std.specs.List.{AllByRecursion}
use Rattle.semiring_laws.specs.Semiring.{Operations, IsSemiring, Fits, Below}
use Rattle.weighted_automata.specs.declared.place.Place.{Place}
use Rattle.weighted_automata.specs.declared.place.Label.{Label}
use Rattle.weighted_automata.specs.declared.place.Label.TheVariants.{Symbol, Empty}
use Rattle.witness_graph.specs.declared.node.Side.{Side}
use Rattle.witness_graph.specs.declared.node.Side.TheVariants.{Pre, Post}
use Rattle.wpds_base.specs.Lists.{IsIn}
use Rattle.saturation_laws.specs.Paths.{symbols_of, IsPath, EachRun, runs_in_order, joined, in_order, along, Reads}
use Rattle.semiring_laws.proofs.CallerLemmas.{extend_left_keeps_below, extend_right_keeps_below}
use Rattle.path_sum.specs.private.Paths.{Moves}

module _ {W Map : Type 0} {s : Operations W Map} (laws : IsSemiring s) where
  pub order_fits : (side : Side) (a b : W) → Fits s a → Fits s b → Fits s (in_order s side a b)
  order_fits Pre a b fa fb = laws.fits-extend a b fa fb
  order_fits Post a b fa fb = laws.fits-extend b a fb fa

  pub order_assoc : (side : Side) (a b c : W) → Fits s a → Fits s b → Fits s c → in_order s side (in_order s side a b) c ≡ in_order s side a (in_order s side b c)
  order_assoc Pre a b c fa fb fc = laws.extend_assoc a b c fa fb fc
  order_assoc Post a b c fa fb fc = sym (laws.extend_assoc c b a fc fb fa)

  pub order_one_left : (side : Side) (a : W) → Fits s a → in_order s side s.one a ≡ a
  order_one_left Pre a fa = laws.extend-one_left a fa
  order_one_left Post a fa = laws.extend-one_right a fa

  pub order_one_right : (side : Side) (a : W) → Fits s a → in_order s side a s.one ≡ a
  order_one_right Pre a fa = laws.extend-one_right a fa
  order_one_right Post a fa = laws.extend-one_left a fa

  pub order_zero_left : (side : Side) (a : W) → Fits s a → in_order s side s.zero a ≡ s.zero
  order_zero_left Pre a fa = laws.extend-zero_left a fa
  order_zero_left Post a fa = laws.extend-zero_right a fa

  pub order_below : (side : Side) (a b c : W) → Fits s a → Fits s b → Fits s c → Below s a b → Below s (in_order s side a c) (in_order s side b c)
  order_below Pre a b c fa fb fc below = extend_right_keeps_below laws a b c fa fb fc below
  order_below Post a b c fa fb fc below = extend_left_keeps_below laws c a b fc fa fb below

  pub along_fit : (side : Side) (ws : List W) → AllByRecursion (Fits s) ws → Fits s (along s side ws)
  along_fit side [] _ = laws.fits-one
  along_fit side (w ∷ ws) fit = order_fits side w (along s side ws) fit.0 (along_fit side ws fit.1)

  pub along_more : (side : Side) (ws : List W) (w : W) → AllByRecursion (Fits s) ws → Fits s w → along s side (ws ++ w ∷ []) ≡ in_order s side (along s side ws) w
  along_more side [] w _ fw = order_one_right side w fw ∙ sym (order_one_left side w fw)
  along_more side (v ∷ ws) w fit fw =
      ap (in_order s side v) (along_more side ws w fit.1 fw) ∙ sym (order_assoc side v (along s side ws) w fit.0 (along_fit side ws fit.1) fw)

order_runs_assoc : (side : Side) (a b c : List ℕ) → runs_in_order side (runs_in_order side a b) c ≡ runs_in_order side a (runs_in_order side b c)
order_runs_assoc Pre a b c = append_assoc a b c
order_runs_assoc Post a b c = sym (append_assoc c b a)

order_runs_nil : (side : Side) (a : List ℕ) → runs_in_order side a [] ≡ runs_in_order side [] a
order_runs_nil Pre a = append-nil a
order_runs_nil Post a = sym (append-nil a)

pub joined_more : (side : Side) (rs : List (List ℕ)) (r : List ℕ) → joined side (rs ++ r ∷ []) ≡ runs_in_order side (joined side rs) r
joined_more side [] r = order_runs_nil side r
joined_more side (q ∷ rs) r = ap (runs_in_order side q) (joined_more side rs r) ∙ sym (order_runs_assoc side q (joined side rs) r)

pub path_more : (xs : List Place) (x : Place) (from : ℕ) (word : List ℕ) (to : ℕ) → IsPath xs from word to → x.from ≡ to → IsPath (xs ++ x ∷ []) from (word ++ symbols_of x.label) x.to
path_more [] x from word to path at =
    ([], at ∙ sym path.1, ap (λ w. w ++ symbols_of x.label) path.0 ∙ sym (append-nil (symbols_of x.label)), (refl, refl))
path_more (y ∷ xs) x from word to path at =
    (path.0 ++ symbols_of x.label, path.1, ap (λ w. w ++ symbols_of x.label) path.2 ∙ append_assoc (symbols_of y.label) path.0 (symbols_of x.label), path_more xs x y.to path.0 to path.3 at)

pub each_more : (runs : Place → List ℕ → Type 0) (xs : List Place) (rs : List (List ℕ)) (x : Place) (r : List ℕ) → EachRun runs xs rs → runs x r → EachRun runs (xs ++ x ∷ []) (rs ++ r ∷ [])
each_more runs [] [] x r each run = (run, tt)
each_more runs [] (q ∷ rs) x r each run = absurd each
each_more runs (y ∷ xs) [] x r each run = absurd each
each_more runs (y ∷ xs) (q ∷ rs) x r each run = (each.0, each_more runs xs rs x r each.1 run)

read_symbol : (edges : List Place) (from : ℕ) (word : List ℕ) (i g j : ℕ) → Reads edges from word i → IsIn (record { from = i; label = Symbol g; to = j }) edges → Reads edges from (word ++ g ∷ []) j
read_symbol edges from [] i g j reads edge = let P : ℕ → Type 0 = λ n. IsIn (record { from = n; label = Symbol g; to = j }) edges in (j, subst P (sym reads) edge, refl)
read_symbol edges from (h ∷ word) i g j reads edge = (reads.0, reads.1, read_symbol edges reads.0 word i g j reads.2 edge)

pub read_more : (edges : List Place) (from : ℕ) (word : List ℕ) (i : ℕ) (l : Label) (j : ℕ) → Reads edges from word i → Moves edges i l j → Reads edges from (word ++ symbols_of l) j
read_more edges from word i (Symbol g) j reads moves = read_symbol edges from word i g j reads moves
read_more edges from word i Empty j reads moves =
    let P : ℕ → Type 0 = λ n. Reads edges from word n in
    let Q : List ℕ → Type 0 = λ w. Reads edges from w j in
    subst Q (sym (append-nil word)) (subst P moves reads)

-- Reading what a label reads, and then a word.
pub record MovesFirst (edges : List Place) (i : ℕ) (l : Label) (word : List ℕ) (j : ℕ) : Type 0 where
  pub mid : ℕ
  pub moves : Moves edges i l mid
  pub reads : Reads edges mid word j

pub moves_first : (edges : List Place) (i : ℕ) (l : Label) (word : List ℕ) (j : ℕ) → Reads edges i (symbols_of l ++ word) j → MovesFirst edges i l word j
moves_first edges i (Symbol g) word j reads = record { mid = reads.0; moves = reads.1; reads = reads.2 }
moves_first edges i Empty word j reads = record { mid = i; moves = refl; reads = reads }
