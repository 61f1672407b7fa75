-- What a closed sum lies below.
use Rattle.std.proofs.Common.{◌≡◌, IsTrue, ℕ, List, [], ◌∷◌, map, refl, sym, ap₂, ◌∙◌, subst}
use Rattle.std.specs.Prelude.{None, Some}
use Rattle.std.specs.List.{AllByRecursion}
use Rattle.semiring_laws.specs.Semiring.{Operations, IsSemiring, Fits, Below}
use Rattle.weighted_automata.specs.declared.place.Place.{Place}
use Rattle.weighted_automata.specs.declared.transitions.Entry.{Entry}
use Rattle.weighted_automata.specs.Entries.{entry_at, Present}
use Rattle.witness_graph.specs.declared.node.Side.{Side}
use Rattle.pushdown_rules.specs.Configuration.{Configuration}
use Rattle.saturation_laws.specs.declared.opening.Opening.{Opening}
use Rattle.saturation_laws.specs.Jobs.{place_of}
use Rattle.wpds_base.specs.Lists.{IsIn}
use Rattle.saturation_laws.specs.States.{weight_of, weight_at}
use Rattle.saturation_laws.specs.Paths.{IsPath, in_order, along, Reads, entry_weight, IsMet}
use Rattle.semiring_laws.proofs.CallerLemmas.{below_itself, below_trans, below_zero}
use Rattle.path_sum.specs.Sums.{Ways, pair_place, answer_place}
use Rattle.path_sum.specs.private.Paths.{HasWay, Moves}
use Rattle.path_sum.specs.private.Work.{IsSummed}
use Rattle.path_sum.proofs.OrderLemmas.{order_fits, order_assoc, order_one_left, order_one_right, order_zero_left, order_below, along_fit, moves_first}

module _ {S W Map : Type 0} {s : Operations W Map} (laws : IsSemiring s) (side : Side) (o : Opening) (ts : List (Entry S W Map)) (ways : Ways) (sums : List (Entry S W Map))
    (fit : (t : Entry S W Map) → Present ts t → Fits s t.weight) (fit_sums : (x : Place) → Fits s (weight_at s x sums))
    (opens : Below s (weight_at s (pair_place 0 ways.control) sums) s.one) (summed : IsSummed s side o ts ways sums) where
  abbrev at : ℕ → ℕ → W
  at i q = weight_at s (pair_place i q) sums

  -- a pair that is not there has zero, and asks for nothing
  along_any : (i j : ℕ) (t : Entry S W Map) → Present ts t → Moves ways.edges i t.place.label j → Below s (at j t.place.to) (in_order s side (at i t.place.from) t.weight)
  along_any i j t there moves =
      elim (entry_at (pair_place i t.place.from) sums) as (λ e. entry_at (pair_place i t.place.from) sums ≡ e → Below s (at j t.place.to) (in_order s side (weight_of s e) t.weight)) [
        | None ↦ λ e. let P : W → Type 0 = Below s (at j t.place.to) in
            subst P (sym (order_zero_left laws side t.weight (fit t there))) (below_zero laws (at j t.place.to) (fit_sums (pair_place j t.place.to)))
        | Some u ↦ λ e. summed.along i j u t e there moves
      ] refl

  ends_any : (i q : ℕ) → IsTrue (ways.final i) → IsIn q o.finals → Below s (weight_at s answer_place sums) (at i q)
  ends_any i q final final' =
      elim (entry_at (pair_place i q) sums) as (λ e. entry_at (pair_place i q) sums ≡ e → Below s (weight_at s answer_place sums) (weight_of s e)) [
        | None ↦ λ e. below_zero laws (weight_at s answer_place sums) (fit_sums answer_place)
        | Some u ↦ λ e. summed.ends i q u e final final'
      ] refl

  weights_fit : (path : List (Entry S W Map)) → AllByRecursion (Present ts) path → AllByRecursion (Fits s) (map entry_weight path)
  weights_fit [] _ = tt
  weights_fit (t ∷ path) there = (fit t there.0, weights_fit path there.1)

  -- along a path a pair lies below the product
  pub way_below : (path : List (Entry S W Map)) → AllByRecursion (Present ts) path → (i from : ℕ) (word : List ℕ) (to j : ℕ) → IsPath (map place_of path) from word to → Reads ways.edges i word j
      → Below s (at j to) (in_order s side (at i from) (along s side (map entry_weight path)))
  way_below [] there i from word to j path reads =
      let P : W → Type 0 = Below s (at j to) in
      let Q : List ℕ → Type 0 = λ w. Reads ways.edges i w j in
      let same : i ≡ j = subst Q path.0 reads in
      let here : at j to ≡ at i from = ap₂ at (sym same) (sym path.1) in
      subst P (here ∙ sym (order_one_right laws side (at i from) (fit_sums (pair_place i from)))) (below_itself laws (at j to) (fit_sums (pair_place j to)))
  way_below (t ∷ path) there i from word to j leads reads =
      let Q : List ℕ → Type 0 = λ w. Reads ways.edges i w j in
      let first = moves_first ways.edges i t.place.label leads.0 j (subst Q leads.2 reads) in
      let k = first.mid in
      let R : ℕ → Type 0 = λ n. Below s (at k t.place.to) (in_order s side (at i n) t.weight) in
      let one : Below s (at k t.place.to) (in_order s side (at i from) t.weight) = subst R leads.1 (along_any i k t there.0 first.moves) in
      let rest = way_below path there.1 k t.place.to leads.0 to j leads.3 first.reads in
      let w = along s side (map entry_weight path) in
      let fw = along_fit laws side (map entry_weight path) (weights_fit path there.1) in
      let ft = fit t there.0 in
      let fi = fit_sums (pair_place i from) in
      let fk = fit_sums (pair_place k t.place.to) in
      let step = in_order s side (at i from) t.weight in
      let fs = order_fits laws side (at i from) t.weight fi ft in
      let P : W → Type 0 = Below s (at j to) in
      subst P (order_assoc laws side (at i from) t.weight w fi ft fw)
      (below_trans laws (at j to) (in_order s side (at k t.place.to) w) (in_order s side step w) (fit_sums (pair_place j to)) (order_fits laws side (at k t.place.to) w fk fw) (order_fits laws side step w fs fw)
      rest (order_below laws side (at k t.place.to) step w fk fs fw one))

  -- the answer lies below each path that reads a configuration of the pattern
  pub met_below : (c : Configuration) (v : W) → Fits s v → HasWay ways c → IsMet s side o.finals ts c v → Below s (weight_at s answer_place sums) v
  met_below c v fv way met =
      let i = way.1 in
      let q = met.to in
      let w = along s side (map entry_weight met.path) in
      let fw = along_fit laws side (map entry_weight met.path) (weights_fit met.path met.present) in
      let a = weight_at s answer_place sums in
      let fa = fit_sums answer_place in
      let fp = fit_sums (pair_place 0 ways.control) in
      let P : ℕ → Type 0 = λ n. Below s (at i q) (in_order s side (at 0 n) w) in
      let through : Below s (at i q) (in_order s side (at 0 ways.control) w) = subst P way.0 (way_below met.path met.present 0 c.control c.stack q i met.reads way.2) in
      let Q : W → Type 0 = λ x. Below s (in_order s side (at 0 ways.control) w) x in
      let from : Below s (in_order s side (at 0 ways.control) w) w =
      subst Q (order_one_left laws side w fw) (order_below laws side (at 0 ways.control) s.one w fp laws.fits-one fw opens) in
      let fo = order_fits laws side (at 0 ways.control) w fp fw in
      below_trans laws a (at i q) v fa (fit_sums (pair_place i q)) fv (ends_any i q way.3 met.final)
      (below_trans laws (at i q) (in_order s side (at 0 ways.control) w) v (fit_sums (pair_place i q)) fo fv through
      (below_trans laws (in_order s side (at 0 ways.control) w) w v fo fw fv from met.below))
