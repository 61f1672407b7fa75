-- One rule more keeps each run, and its value.
use Rattle.std.proofs.Common.{◌≡◌, inl, inr, ℕ, zero, suc, ◌<◌, ◌≤◌, List, [], ◌∷◌, ◌++◌, length, map, get_or, refl, sym, ap, ap₂, ◌∙◌, subst, arith}
use Rattle.std.specs.Prelude.{Option, None, Some, IfSome, slice_get}
use Rattle.std.specs.List.{AllByRecursion}
use Rattle.std.proofs.lemmas.Bool.{cases_lt}
use Rattle.std.proofs.lemmas.Option.{slice_get_within, slice_get_cases}
use Rattle.std.proofs.lemmas.List.{get_or_append_left, get_or_push, get_or_past, length_push}
use Rattle.semiring_laws.specs.Semiring.{Operations}
use Rattle.semiring_laws.specs.Combination.{combination}
use Rattle.weighted_automata.specs.declared.place.Place.{Place}
use Rattle.weighted_automata.specs.declared.place.Label.{Label}
use Rattle.weighted_automata.specs.declared.place.Label.TheVariants.{Symbol, Empty}
use Rattle.witness_graph.specs.declared.node.Node.{Node}
use Rattle.witness_graph.specs.declared.node.Node.TheVariants.{Start, Lower}
use Rattle.witness_graph.specs.declared.node.Side.{Side}
use Rattle.witness_graph.specs.declared.node.Side.TheVariants.{Pre, Post}
use Rattle.witness_graph.specs.Runs.{concatenations, part_runs, rule_runs, parts_runs, earlier_runs, runs_over, table_from, runs_of}
use Rattle.pushdown_rules.specs.declared.rule.Rule.{Rule}
use Rattle.pushdown_rules.specs.Configuration.{Configuration}
use Rattle.pushdown_rules.specs.Pushdown.{Pushdown}
use Rattle.pushdown_rules.specs.Firing.{Run, next_of}
use Rattle.pushdown_rules.specs.RunValue.{run_value}
use Rattle.pushdown_rules.specs.Values.{rules_of, value_of}
use Rattle.pushdown_rules.proofs.CallerLemmas.{fired, fires, rules_cons}
use Rattle.wpds_base.specs.Lists.{IsIn}
use Rattle.saturation_laws.specs.Directions.{AreRuns}
use Rattle.saturation_laws.proofs.CallerLemmas.{from_flat_map, from_map, in_append}
use Rattle.prestar_laws.specs.Reading.{PreRun}
use Rattle.prestar_laws.specs.LaterRules.{and_rule, rule_named, NameRulesBelow}

-- what stands in a list stands there with one more behind
pub get_more : {X : Type 0} (xs : List X) (y : X) (k : ℕ) (x : X) → slice_get xs k ≡ Some x → slice_get (xs ++ y ∷ []) k ≡ Some x
get_more [] y k x e = cc
get_more (z ∷ xs) y zero x e = e
get_more (z ∷ xs) y (suc k) x e = get_more xs y k x e

pub get_last : {X : Type 0} (xs : List X) (y : X) → slice_get (xs ++ y ∷ []) (length xs) ≡ Some y
get_last [] y = refl
get_last (x ∷ xs) y = get_last xs y

-- the runs have rules below a number alone
abbrev pub HaveBelow : ℕ → List (List ℕ) → Type 0
HaveBelow n rs = (run : List ℕ) → IsIn run rs → (i : ℕ) → IsIn i run → i < n

module _ (n : ℕ) where
  none_below : HaveBelow n []
  none_below run h = absurd h

  empty_below : HaveBelow n ([] ∷ [])
  empty_below run h i at = elim h [
    | inl e ↦ let P : List ℕ → Type 0 = IsIn i in absurd (subst P (sym e) at)
    | inr g ↦ absurd g
  ]

  rule_below : (o : Option ℕ) → IfSome o (λ i. i < n) → HaveBelow n (rule_runs o)
  rule_below None h = empty_below
  rule_below (Some k) h = λ run there i at. elim there [
    | inl e ↦
        let P : List ℕ → Type 0 = IsIn i in
        elim (subst P (sym e) at) [
          | inl same ↦ let Q : ℕ → Type 0 = λ j. j < n in subst Q same h
          | inr g ↦ absurd g
        ]
    | inr g ↦ absurd g
  ]

  both_below : (xs ys : List (List ℕ)) → HaveBelow n xs → HaveBelow n ys → HaveBelow n (concatenations xs ys)
  both_below xs ys bx by run there i at =
      let one = from_flat_map (λ a. map (λ b. a ++ b) ys) run xs there in
      let two = from_map (λ b. one.before ++ b) run ys one.is in
      let P : List ℕ → Type 0 = IsIn i in
      elim (in_append i one.before two.before (subst P (sym two.is) at)) [
        | inl left ↦ bx one.before one.there i left
        | inr right ↦ by two.before two.there i right
      ]

  appended_below : (xs ys : List (List ℕ)) → HaveBelow n xs → HaveBelow n ys → HaveBelow n (xs ++ ys)
  appended_below xs ys bx by run there i at = elim (in_append run xs ys there) [ inl left ↦ bx run left i at | inr right ↦ by run right i at ]

  parts_below : (side : Side) (rule first second : List (List ℕ)) → HaveBelow n rule → HaveBelow n first → HaveBelow n second → HaveBelow n (parts_runs side rule first second)
  parts_below Pre rule first second br bf bs = both_below rule (concatenations first second) br (both_below first second bf bs)
  parts_below Post rule first second br bf bs = both_below first (concatenations second rule) bf (both_below second rule bs br)

  part_below : (known : ℕ → List (List ℕ)) → ((k : ℕ) → HaveBelow n (known k)) → (o : Option ℕ) → HaveBelow n (part_runs known o)
  part_below known all None = empty_below
  part_below known all (Some k) = all k

  earlier_below : (known : ℕ → List (List ℕ)) → ((k : ℕ) → HaveBelow n (known k)) → (o : Option ℕ) → HaveBelow n (earlier_runs known o)
  earlier_below known all None = none_below
  earlier_below known all (Some k) = all k

  over_below : (side : Side) (known : ℕ → List (List ℕ)) → ((k : ℕ) → HaveBelow n (known k)) → (node : Node) → IfSome (rule_named node) (λ i. i < n) → HaveBelow n (runs_over side known node)
  over_below side known all Start h = empty_below
  over_below side known all (Lower before rule first second) h =
      appended_below (earlier_runs known before) (parts_runs side (rule_runs rule) (part_runs known first) (part_runs known second)) (earlier_below known all before)
      (parts_below side (rule_runs rule) (part_runs known first) (part_runs known second) (rule_below rule h) (part_below known all first) (part_below known all second))

  abbrev TableBelow : List (List (List ℕ)) → Type 0
  TableBelow table = (k : ℕ) → HaveBelow n (get_or table k [])

  push_below : (table : List (List (List ℕ))) (rs : List (List ℕ)) → TableBelow table → HaveBelow n rs → TableBelow (table ++ rs ∷ [])
  push_below table rs all here k =
      let P : List (List ℕ) → Type 0 = HaveBelow n in
      elim (cases_lt k (length table)) [
        | inl low ↦ subst P (sym (get_or_append_left table (rs ∷ []) [] k low)) (all k)
        | inr high ↦ elim (cases_lt (length table) k) [
          | inl past ↦ subst P (sym (get_or_past (table ++ rs ∷ []) k [] (omega (arith, length_push table rs)))) none_below
          | inr least ↦ subst P (sym (get_or_push table rs [] k (omega arith))) here
        ]
      ]

  table_below : (side : Side) (table : List (List (List ℕ))) (nodes : List Node) → TableBelow table → ((k : ℕ) (node : Node) → slice_get nodes k ≡ Some node → IfSome (rule_named node) (λ i. i < n))
      → TableBelow (table_from side table nodes)
  table_below side table [] all each = all
  table_below side table (node ∷ nodes) all each =
      let rs = runs_over side (λ k. get_or table k []) node in
      table_below side (table ++ rs ∷ []) nodes (push_below table rs all (over_below side (λ k. get_or table k []) all node (each zero node refl))) (λ k m e. each (suc k) m e)

  no_table : TableBelow []
  no_table k run there = let P : List (List ℕ) → Type 0 = IsIn run in absurd (subst P (get_or_past [] k [] (omega arith)) there)

  -- where nodes name rules below a number, so do their runs
  pub runs_below : (side : Side) (nodes : List Node) → NameRulesBelow n nodes → (k : ℕ) → HaveBelow n (runs_of side nodes k)
  unfolding runs_of
  runs_below side nodes names k = table_below side [] nodes no_table names.each k

module _ {S W Map : Type 0} (p : Pushdown S W Map) (r : Rule S W Map) where
  abbrev q : Pushdown S W Map
  q = and_rule p r

  -- a rule that fires fires
  next_more : (k : ℕ) (c d : Configuration) → next_of p k c ≡ Some d → next_of q k c ≡ Some d
  next_more k c d e =
      let f = fired p k c d e in
      ap (next_of q k) f.head ∙ fires q k f.rule (get_more p.rules r k f.rule f.there) f.rest ∙ ap Some (sym f.after)

  -- a run is a run
  pub run_more : (run : List ℕ) (c d : Configuration) → Run p c run d → Run q c run d
  run_more [] c d same = same
  run_more (k ∷ run) c d goes = (goes.0, next_more k c goes.0 goes.1, run_more run goes.0 d goes.2)

  -- and its rules stand below the one that comes
  pub run_below : (run : List ℕ) (c d : Configuration) → Run p c run d → (i : ℕ) → IsIn i run → i < length p.rules
  run_below [] c d goes i h = absurd h
  run_below (k ∷ run) c d goes i (inl same) =
      let f = fired p k c goes.0 goes.1 in
      let P : ℕ → Type 0 = λ j. j < length p.rules in
      subst P same (slice_get_within p.rules k f.rule f.there)
  run_below (k ∷ run) c d goes i (inr h) = run_below run goes.0 d goes.2 i h

  module _ (s : Operations W Map) where
    there_below : (k : ℕ) → k < length p.rules → (u : Rule S W Map) × (slice_get p.rules k ≡ Some u)
    there_below k low = elim (slice_get_cases p.rules k).1 [
      | inl at ↦ (at.0, at.2)
      | inr past ↦ absurd (let h : length p.rules ≤ k = past.0 in omega arith)
    ]

    rules_more : (run : List ℕ) → ((i : ℕ) → IsIn i run → i < length p.rules) → rules_of s q run ≡ rules_of s p run
    rules_more [] low = refl
    rules_more (k ∷ run) low =
        let u = there_below k (low k (inl refl)) in
        rules_cons s q k u.0 run (get_more p.rules r k u.0 u.1) ∙ ap (λ us. u.0 ∷ us) (rules_more run (λ i h. low i (inr h))) ∙ sym (rules_cons s p k u.0 run u.1)

    -- its value is the same
    pub value_more : (run : List ℕ) → ((i : ℕ) → IsIn i run → i < length p.rules) → value_of s q run ≡ value_of s p run
    value_more run low = ap (run_value s) (rules_more run low)

    pub values_more : (rs : List (List ℕ)) → HaveBelow (length p.rules) rs → map (value_of s q) rs ≡ map (value_of s p) rs
    values_more [] low = refl
    values_more (run ∷ rs) low = ap₂ (λ v vs. v ∷ vs) (value_more run (low run (inl refl))) (values_more rs (λ a h. low a (inr h)))

    module _ (edges : List Place) where
      abbrev runs : Place → List ℕ → Type 0
      runs = PreRun p edges

      pre_run_at : (from : ℕ) (l : Label) (to : ℕ) (run : List ℕ) → runs (record { from = from; label = l; to = to }) run
          → PreRun q edges (record { from = from; label = l; to = to }) run × ((i : ℕ) → IsIn i run → i < length p.rules)
      pre_run_at from (Symbol g) to run (inl goes) =
          let leads = goes.1 in
          let c : Configuration = record { control = from; stack = g ∷ [] } in
          (inl (goes.0, (leads.0, run_more run c leads.0 leads.1, leads.2)), run_below run c leads.0 leads.1)
      pre_run_at from (Symbol g) to run (inr stays) =
          (inr stays, λ i h. let P : List ℕ → Type 0 = IsIn i in absurd (subst P stays.2 h))
      pre_run_at from Empty to run none = absurd none

      -- and so are the runs of a place
      pub pre_run_more : (x : Place) (run : List ℕ) → runs x run → PreRun q edges x run × ((i : ℕ) → IsIn i run → i < length p.rules)
      pre_run_more x run is = pre_run_at x.from x.label x.to run is

      all_more : (x : Place) (rs : List (List ℕ)) → AllByRecursion (runs x) rs → AllByRecursion (PreRun q edges x) rs × HaveBelow (length p.rules) rs
      all_more x [] each = (tt, λ run h. absurd h)
      all_more x (run ∷ rs) each =
          let one = pre_run_more x run each.0 in
          let rest = all_more x rs each.1 in (
            (one.0, rest.0),
            λ a h i at. elim h [
              | inl same ↦ let P : List ℕ → Type 0 = IsIn i in one.1 i (subst P (sym same) at)
              | inr later ↦ rest.1 a later i at
            ],
          )

      pub are_runs_more : (x : Place) (w : W) (rs : List (List ℕ)) → AreRuns s (value_of s p) runs x w rs → AreRuns s (value_of s q) (PreRun q edges) x w rs
      are_runs_more x w rs are =
          let all = all_more x rs are.each in
          record { each = all.0; weight = are.weight ∙ ap (combination s) (sym (values_more rs all.1)) }
