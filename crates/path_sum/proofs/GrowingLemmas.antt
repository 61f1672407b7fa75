-- What grows from a book has runs of its pairs, and the answer's are runs of the query.
use Rattle.std.proofs.Common.{◌≡◌, inl, inr, IsTrue, ℕ, ◌<◌, ◌≤◌, true, List, [], ◌∷◌, ◌++◌, map, length, refl, sym, ap, ap₂, ◌∙◌, subst}
use Rattle.std.specs.Prelude.{None, nat_eq}
use Rattle.std.specs.List.{AllByRecursion}
use Rattle.std.proofs.lemmas.Bool.{or_cases, eqb-true}
use Rattle.std.proofs.lemmas.List.{map-append, map-id, append-nil}
use Rattle.semiring_laws.specs.Semiring.{Operations, IsSemiring, Fits, Below}
use Rattle.semiring_laws.specs.Combination.{combination}
use Rattle.weighted_automata.specs.declared.place.Place.{Place}
use Rattle.weighted_automata.specs.declared.place.Label.{Label}
use Rattle.weighted_automata.specs.declared.place.Label.TheVariants.{Symbol, Empty}
use Rattle.weighted_automata.specs.declared.transitions.Entry.{Entry}
use Rattle.witness_graph.specs.declared.node.Node.{Node}
use Rattle.witness_graph.specs.declared.node.Side.{Side}
use Rattle.witness_graph.specs.declared.node.Side.TheVariants.{Pre, Post}
use Rattle.witness_graph.specs.Runs.{runs_of, concatenations, part_runs, rule_runs, parts_runs}
use Rattle.pushdown_rules.specs.Configuration.{Configuration}
use Rattle.pushdown_rules.specs.Pushdown.{Pushdown}
use Rattle.saturation_laws.specs.declared.opening.Opening.{Opening}
use Rattle.wpds_base.specs.Lists.{IsIn}
use Rattle.saturation_laws.specs.States.{CoreState, weight_at}
use Rattle.saturation_laws.specs.Directions.{AreRuns}
use Rattle.saturation_laws.specs.Invariants.{IsSound}
use Rattle.saturation_laws.specs.Paths.{symbols_of, IsPath, EachRun, runs_in_order, joined, in_order, along, Joins, IsGiven}
use Rattle.saturation_laws.proofs.CallerLemmas.{has_place_is, IsLinear, bilinear, all_pairs, then_empty, IsSoundState, IsSoundChange}
use Rattle.path_sum.specs.Sums.{Ways, pair_place, answer_place, can_move, has_state, along_change, end_change}
use Rattle.path_sum.specs.private.Paths.{Moves, PairRun, AnswerRun, SumRun}
use Rattle.path_sum.proofs.OrderLemmas.{along_more, joined_more, path_more, each_more, read_more}

-- each run after the empty one
before_empty : (zs : List (List ℕ)) → concatenations ([] ∷ []) zs ≡ zs
before_empty zs = append-nil (map (λ z. z) zs) ∙ map-id zs

weaker : {X : Type 0} (P Q : X → Type 0) → ((x : X) → P x → Q x) → (xs : List X) → AllByRecursion P xs → AllByRecursion Q xs
weaker P Q f [] _ = tt
weaker P Q f (x ∷ xs) all = (f x all.0, weaker P Q f xs all.1)

pub can_move_is : (edges : List Place) (i : ℕ) (l : Label) (j : ℕ) → can_move edges i l j ≡ true → Moves edges i l j
can_move_is edges i (Symbol g) j test = has_place_is (record { from = i; label = Symbol g; to = j }) edges test
can_move_is edges i Empty j test = eqb-true i j test

pub has_state_is : (q : ℕ) (rs : List ℕ) → has_state q rs ≡ true → IsIn q rs
has_state_is q [] test = cc
has_state_is q (r ∷ rs) test = elim (or_cases (nat_eq r q) (has_state q rs) test) [ inl e ↦ inl (eqb-true r q e) | inr e ↦ inr (has_state_is q rs e) ]

module _ {W Map : Type 0} {s : Operations W Map} (laws : IsSemiring s) where
  extends_right : (a : W) → Fits s a → IsLinear s (s.extend a)
  extends_right a fa = record { strict = laws.extend-zero_right a fa; adds = λ b c fb fc. laws.extend-combine_right a b c fa fb fc }

  extends_left : (b : W) → Fits s b → IsLinear s (λ a. s.extend a b)
  extends_left b fb = record { strict = laws.extend-zero_left b fb; adds = λ a c fa fc. laws.extend-combine_left a c b fa fc fb }

module _ {W Map : Type 0} {s : Operations W Map} (laws : IsSemiring s) (value : List ℕ → W) (fits_value : (run : List ℕ) → Fits s (value run)) where
  values_fit : (rs : List (List ℕ)) → AllByRecursion (Fits s) (map value rs)
  values_fit [] = tt
  values_fit (r ∷ rs) = (fits_value r, values_fit rs)

  -- the runs of two parts, one after the other
  pairs_are : (P Q R : List ℕ → Type 0) → ((a b : List ℕ) → P a → Q b → R (a ++ b) × (value (a ++ b) ≡ s.extend (value a) (value b)))
      → (v w : W) (xs ys : List (List ℕ)) → AllByRecursion P xs → v ≡ combination s (map value xs) → AllByRecursion Q ys → w ≡ combination s (map value ys)
      → AllByRecursion R (concatenations xs ys) × (s.extend v w ≡ combination s (map value (concatenations xs ys)))
  pairs_are P Q R each v w xs ys all is alls is' =
      let same : List ℕ → List ℕ = λ z. z in
      let T : List (List ℕ) → Type 0 = λ zs. AllByRecursion R zs × (s.extend v w ≡ combination s (map value zs)) in
      subst T (map-id (concatenations xs ys)) (
        all_pairs R same P Q (λ a b pa qb. (each a b pa qb).0) xs ys all alls,
        ap₂ s.extend is is' ∙ sym (bilinear laws value fits_value s.extend (λ b fb. extends_left laws b fb) (λ a fa. extends_right laws a fa) same P Q (λ a b pa qb. (each a b pa qb).1) xs ys all alls),
      )

-- What holds of a sum over the nodes of a book.
pub record IsSum {S W Map : Type 0} (s : Operations W Map) (value : List ℕ → W) (sum_runs : Place → List ℕ → Type 0) (side : Side) (ways : Ways) (nodes : List Node) (st : CoreState S W Map) : Type 0 where
  pub sound : IsSoundState s value sum_runs side st
  pub more : length nodes ≤ length st.nodes
  pub same : (k : ℕ) → k < length nodes → runs_of side st.nodes k ≡ runs_of side nodes k
  pub opens : Below s (weight_at s (pair_place 0 ways.control) st.transitions) s.one

module _ {S W Map : Type 0} {s : Operations W Map} (laws : IsSemiring s) (value : List ℕ → W) (fits_value : (run : List ℕ) → Fits s (value run)) (p : Pushdown S W Map)
    (side : Side) (o : Opening) (ways : Ways) (runs : Place → List ℕ → Type 0) (control : ways.control < p.controls)
    (gives : (c : Configuration) (xs : List Place) (rs : List (List ℕ)) (to : ℕ) → c.control < p.controls → IsPath xs c.control c.stack to → EachRun runs xs rs → IsGiven s value side p o c to rs) where
  abbrev sums : Place → List ℕ → Type 0
  sums = SumRun p side o ways runs

  abbrev over : List ℕ → Configuration
  over word = record { control = ways.control; stack = word }

  -- a run of a pair, and then one of a transition from there
  pair_more : (i q : ℕ) (a : List ℕ) → PairRun side o ways runs i q a → (x : Place) → x.from ≡ q → (j : ℕ) → Moves ways.edges i x.label j → (b : List ℕ) → runs x b
      → PairRun side o ways runs j x.to (runs_in_order side a b) × (value (runs_in_order side a b) ≡ in_order s side (value a) (value b))
  pair_more i q a pair x at j moves b run =
      let word = pair.0 in
      let xs = pair.1 in
      let rs = pair.2 in
      let is : runs_in_order side a b ≡ joined side (rs ++ b ∷ []) = ap (λ z. runs_in_order side z b) pair.6 ∙ sym (joined_more side rs b) in
      let reads = read_more ways.edges 0 word i x.label j pair.3 moves in
      let path = path_more xs x ways.control word q pair.4 at in
      let each = each_more runs xs rs x b pair.5 run in
      let one = gives (over word) xs rs q control pair.4 pair.5 in
      let two = gives (over (word ++ symbols_of x.label)) (xs ++ x ∷ []) (rs ++ b ∷ []) x.to control path each in (
        (word ++ symbols_of x.label, xs ++ x ∷ [], rs ++ b ∷ [], reads, path, each, is),
        ap value is ∙ two.value_is ∙ ap (along s side) (map-append value rs (b ∷ []))
            ∙ along_more laws side (map value rs) (value b) (values_fit laws value fits_value rs) (fits_value b)
            ∙ ap (λ w. in_order s side w (value b)) (sym one.value_is ∙ ap value (sym pair.6)),
      )

  along_runs : (sd : Side) → side ≡ sd → (known : ℕ → List (List ℕ)) (i j : ℕ) (u t : Entry S W Map) → u.place ≡ pair_place i t.place.from → Moves ways.edges i t.place.label j
      → AreRuns s value sums u.place u.weight (known u.node) → AreRuns s value runs t.place t.weight (known t.node)
      → AreRuns s value sums (pair_place j t.place.to) (in_order s sd u.weight t.weight)
      (parts_runs sd (rule_runs None) (part_runs known (along_change s sd j u t).first) (part_runs known (along_change s sd j u t).second))
  along_runs Pre e known i j u t at moves us ts =
      let us' : AllByRecursion (PairRun side o ways runs i t.place.from) (known u.node) = let P : Place → Type 0 = λ x. AllByRecursion (sums x) (known u.node) in subst P at us.each in
      let both = pairs_are laws value fits_value (PairRun side o ways runs i t.place.from) (runs t.place) (PairRun side o ways runs j t.place.to)
      (λ a b pa rb. let h = pair_more i t.place.from a pa t.place refl j moves b rb in
      let T : Side → Type 0 = λ d. PairRun side o ways runs j t.place.to (runs_in_order d a b) × (value (runs_in_order d a b) ≡ in_order s d (value a) (value b)) in subst T e h)
      u.weight t.weight (known u.node) (known t.node) us' us.weight ts.each ts.weight in
      let Q : List (List ℕ) → Type 0 = AreRuns s value sums (pair_place j t.place.to) (s.extend u.weight t.weight) in
      subst Q (sym (before_empty (concatenations (known u.node) (known t.node)))) (record { each = both.0; weight = both.1 })
  along_runs Post e known i j u t at moves us ts =
      let us' : AllByRecursion (PairRun side o ways runs i t.place.from) (known u.node) = let P : Place → Type 0 = λ x. AllByRecursion (sums x) (known u.node) in subst P at us.each in
      let both = pairs_are laws value fits_value (runs t.place) (PairRun side o ways runs i t.place.from) (PairRun side o ways runs j t.place.to)
      (λ b a rb pa. let h = pair_more i t.place.from a pa t.place refl j moves b rb in
      let T : Side → Type 0 = λ d. PairRun side o ways runs j t.place.to (runs_in_order d a b) × (value (runs_in_order d a b) ≡ in_order s d (value a) (value b)) in subst T e h)
      t.weight u.weight (known t.node) (known u.node) ts.each ts.weight us' us.weight in
      let Q : List (List ℕ) → Type 0 = λ zs. AreRuns s value sums (pair_place j t.place.to) (s.extend t.weight u.weight) (concatenations (known t.node) zs) in
      subst Q (sym (then_empty (known u.node))) (record { each = both.0; weight = both.1 })

  pub along_sound : (nodes : List Node) (i j : ℕ) (u t : Entry S W Map) → u.place ≡ pair_place i t.place.from → Moves ways.edges i t.place.label j
      → IsSound s value sums side nodes u → IsSound s value runs side nodes t → IsSoundChange s value sums side nodes (along_change s side j u t)
  along_sound nodes i j u t at moves us ts =
      let is = along_runs side refl (runs_of side nodes) i j u t at moves us.are_runs ts.are_runs in
      elim side as (λ sd. side ≡ sd → AreRuns s value sums (pair_place j t.place.to) (in_order s sd u.weight t.weight)
      (parts_runs sd (rule_runs None) (part_runs (runs_of side nodes) (along_change s sd j u t).first) (part_runs (runs_of side nodes) (along_change s sd j u t).second))
      → IsSoundChange s value sums side nodes (along_change s side j u t)) [
        | Pre ↦ λ e a. let T : Side → Type 0 = λ sd. IsSoundChange s value sums side nodes (along_change s sd j u t) in
            let R : Side → Type 0 = λ sd. AreRuns s value sums (pair_place j t.place.to) (s.extend u.weight t.weight)
            (parts_runs sd (rule_runs None) (runs_of side nodes u.node) (runs_of side nodes t.node)) in
            subst T (sym e) (record { first = us.node; second = ts.node; part = refl; are_runs = subst R (sym e) a })
        | Post ↦ λ e a. let T : Side → Type 0 = λ sd. IsSoundChange s value sums side nodes (along_change s sd j u t) in
            let R : Side → Type 0 = λ sd. AreRuns s value sums (pair_place j t.place.to) (s.extend t.weight u.weight)
            (parts_runs sd (rule_runs None) (runs_of side nodes t.node) (runs_of side nodes u.node)) in
            subst T (sym e) (record { first = ts.node; second = us.node; part = refl; are_runs = subst R (sym e) a })
      ] refl is

  -- a run of a pair of final states is a run of the answer
  answer_run : (i q : ℕ) → IsTrue (ways.final i) → IsIn q o.finals → (a : List ℕ) → PairRun side o ways runs i q a → AnswerRun p side o ways runs a
  answer_run i q final final' a pair =
      let word = pair.0 in
      let given = (gives (over word) pair.1 pair.2 q control pair.4 pair.5).run final' in
      let P : List ℕ → Type 0 = λ z. Joins side p (over word) z given.0 in
      (over word, given.0, (refl, i, pair.3, final), given.2, given.1, subst P (sym pair.6) given.3)

  end_parts : (sd : Side) (zs : List (List ℕ)) → parts_runs sd (rule_runs None) zs ([] ∷ []) ≡ zs
  end_parts Pre zs = before_empty (concatenations zs ([] ∷ [])) ∙ then_empty zs
  end_parts Post zs = then_empty zs

  pub end_sound : (nodes : List Node) (i q : ℕ) (u : Entry S W Map) → u.place ≡ pair_place i q → IsTrue (ways.final i) → IsIn q o.finals
      → IsSound s value sums side nodes u → IsSoundChange s value sums side nodes (end_change s side u)
  end_sound nodes i q u at final final' us =
      let zs = runs_of side nodes u.node in
      let us' : AllByRecursion (PairRun side o ways runs i q) zs = let P : Place → Type 0 = λ x. AllByRecursion (sums x) zs in subst P at us.are_runs.each in
      let Q : List (List ℕ) → Type 0 = AreRuns s value sums answer_place u.weight in
      record {
        first = us.node;
        second = tt;
        part = refl;
        are_runs = subst Q (sym (end_parts side zs)) (record { each = weaker (PairRun side o ways runs i q) (AnswerRun p side o ways runs) (answer_run i q final final') zs us'; weight = us.are_runs.weight });
      }
