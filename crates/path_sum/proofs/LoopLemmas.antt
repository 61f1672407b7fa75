-- The moves of a pair, one after another.
use Rattle.std.proofs.Common.{◌≡◌, ℕ, ◌+◌, List, [], ◌∷◌, ◌++◌, map, drop, sym, ap, ◌∙◌}
use Rattle.std.specs.Prelude.{Option, None, Some, cond, slice_get, option_and_then}
use Rattle.std.specs.List.{All}
use Rattle.std.proofs.lemmas.Bool.{eq-eqb}
use Rattle.semiring_laws.specs.Semiring.{Operations}
use Rattle.weighted_automata.specs.declared.place.Place.{Place}
use Rattle.weighted_automata.specs.declared.place.Label.{Label}
use Rattle.weighted_automata.specs.declared.place.Label.TheVariants.{Empty, Symbol}
use Rattle.weighted_automata.specs.declared.transitions.Entry.{Entry}
use Rattle.witness_graph.specs.declared.node.Side.{Side}
use Rattle.config_patterns.specs.declared.item.Item.{Item}
use Rattle.config_patterns.specs.Edges.{edges_of}
use Rattle.saturation_laws.specs.declared.opening.Opening.{Opening}
use Rattle.saturation_laws.specs.States.{CoreState}
use Rattle.saturation_core.proofs.CallerLemmas.{drop_at}
use Rattle.path_sum.specs.Sums.{Ways, edge_place, Move, move, grow}
use Rattle.path_sum.proofs.ItemLemmas.{HasSet, by_items, on_step}
use Rattle.path_sum.specs.private.Work.{edge_moves, into_moves, on_moves, back_moves, item_at, moves_by, pair_moves, end_moves, moves_of}

module _ {S W Map : Type 0} (s : Operations W Map) (side : Side) (o : Opening) (ts : List (Entry S W Map)) (ways : Ways) where
  abbrev growing : CoreState S W Map → List Move → Option (CoreState S W Map)
  growing st ms = grow s side o ts ways st ms

  -- moves and then more moves, where the first lead to a state
  pub grow_on : (ms more : List Move) (now mid : CoreState S W Map) → growing now ms ≡ Some mid → growing now (ms ++ more) ≡ growing mid more
  grow_on [] more now mid at = let same : now ≡ mid = cc in ap (λ m. growing m more) same
  grow_on (m ∷ ms) more now mid at =
      elim (move s side o ts ways m now) as (λ e. option_and_then (λ n. growing n ms) e ≡ Some mid → option_and_then (λ n. growing n (ms ++ more)) e ≡ growing mid more) [
        | None ↦ λ h. cc
        | Some n ↦ λ h. grow_on ms more n mid h
      ] at

  -- one item more
  pub item_more : (i g : ℕ) (x : Place) (items : List Item) (k : ℕ) (y : Item) (now new : CoreState S W Map) (all : Option (CoreState S W Map)) → slice_get items k ≡ Some y
      → growing now (on_moves i g x (k + 1) (drop k items)) ≡ all → growing now (into_moves i g x (k + 1) y) ≡ Some new
      → growing new (cond y.star (on_moves i g x (k + 1 + 1) (drop (k + 1) items)) []) ≡ all
  item_more i g x items k y now new all there was made =
      sym (grow_on (into_moves i g x (k + 1) y) (cond y.star (on_moves i g x (k + 1 + 1) (drop (k + 1) items)) []) now new made)
      ∙ sym (ap (growing now) (on_step i g x items k y there)) ∙ was

  -- by all edges, of which one leads back
  pub edges_made : (i g : ℕ) (x : Place) (items : List Item) (now mid new : CoreState S W Map) → All HasSet items
      → growing now (back_moves i g x (item_at i items)) ≡ Some mid → growing mid (on_moves i g x (i + 1) (drop i items)) ≡ Some new
      → growing now (edge_moves i g x (map edge_place (edges_of items))) ≡ Some new
  edges_made i g x items now mid new sets first second =
      ap (growing now) (by_items i g x items sets) ∙ grow_on (back_moves i g x (item_at i items)) (on_moves i g x (i + 1) (drop i items)) now mid first ∙ second

  -- one transition more
  pub pair_more : (i q k : ℕ) (us : List (Entry S W Map)) (t : Entry S W Map) (now new : CoreState S W Map) (all : Option (CoreState S W Map)) → slice_get us k ≡ Some t → t.place.from ≡ q
      → growing now (pair_moves o ways i q (drop k us)) ≡ all → growing now (moves_by o ways i t) ≡ Some new → growing new (pair_moves o ways i q (drop (k + 1) us)) ≡ all
  pair_more i q k us t now new all there from was made =
      let rest = pair_moves o ways i q (drop (k + 1) us) in
      sym (grow_on (moves_by o ways i t) rest now new made)
      ∙ sym (ap (λ b. growing now (cond b (moves_by o ways i t ++ rest) rest)) (eq-eqb t.place.from q from))
      ∙ sym (ap (λ vs. growing now (pair_moves o ways i q vs)) (drop_at us k t there)) ∙ was

  -- all that goes on from a pair
  pub drawn_all : (x : Place) (now mid new : CoreState S W Map) → x.label ≡ Empty → growing now (pair_moves o ways x.from x.to ts) ≡ Some mid → growing mid (end_moves o ways x.from x.to) ≡ Some new
      → growing now (moves_of o ways ts x) ≡ Some new
  drawn_all x now mid new label first second =
      let all = pair_moves o ways x.from x.to ts ++ end_moves o ways x.from x.to in
      let F : Label → Option (CoreState S W Map) = λ l. growing now (elim l [ Empty ↦ all | Symbol g ↦ [] ]) in
      ap F label ∙ grow_on (pair_moves o ways x.from x.to ts) (end_moves o ways x.from x.to) now mid first ∙ second
