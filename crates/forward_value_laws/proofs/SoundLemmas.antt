-- What is made of sums of runs are sums of runs.
use Rattle.std.proofs.Common.{◌≡◌, ℕ, ◌≤◌, List, [], ◌∷◌, ◌++◌, length, refl, sym, ap, ◌∙◌, subst, arith}
use Rattle.std.specs.Prelude.{Some, slice_get, unwrap_or}
use Rattle.std.proofs.lemmas.List.{append-nil}
use Rattle.wpds_base.specs.Lists.{IsIn}
use Rattle.semiring_laws.specs.Semiring.{Operations, IsSemiring, Fits}
use Rattle.pushdown_rules.specs.declared.rule.Rule.{Rule}
use Rattle.pushdown_rules.specs.Configuration.{Configuration, at_stack}
use Rattle.pushdown_rules.specs.Pushdown.{Pushdown, IsSystem}
use Rattle.pushdown_rules.specs.Firing.{Run}
use Rattle.pushdown_rules.specs.Values.{value_of}
use Rattle.pushdown_rules.proofs.CallerLemmas.{fires, run_above, run_then, value_fits, weight_fits, map_fits, push_value, after_value, step_last, pop_last}
use Rattle.config_patterns.specs.declared.edge.Edge.{Edge}
use Rattle.config_patterns.specs.Paths.{Reads}
use Rattle.forward_value_laws.specs.Model.{Source, item, callee, head_of, Begins, Comes}
use Rattle.value_laws.specs.Runs.{Sums}
use Rattle.value_laws.proofs.CallerLemmas.{linear_left, linear_right, linear_after, sums_one, sums_map, sums_within, sums_pairs}

-- one symbol more is read
pub read_more : (edges : List Edge) (word : List ℕ) (k g i j : ℕ) → Reads edges k word i → IsIn (record { from = i; symbol = g; to = j }) edges → Reads edges k (word ++ g ∷ []) j
read_more edges [] k g i j same edge =
    let P : ℕ → Type 0 = λ n. IsIn (record { from = n; symbol = g; to = j }) edges in (j, subst P (sym same) edge, refl)
read_more edges (a ∷ word) k g i j reads edge = (reads.0, reads.1, read_more edges word reads.0 g i j reads.2 edge)

module _ {S W Map : Type 0} {operations : S → Operations W Map} {p : Pushdown S W Map} (valid : IsSystem operations p) (laws : IsSemiring (operations p.semiring)) (start : ℕ) (edges : List Edge) where
  abbrev s : Operations W Map
  s = operations p.semiring

  abbrev value : List ℕ → W
  value = value_of s p

  abbrev fv : (run : List ℕ) → Fits s (value run)
  fv run = value_fits valid laws run

  abbrev To : Configuration → Source → List ℕ → Type 0
  To row from run = Comes p start edges row from run

  abbrev SumTo : Configuration → Source → W → Type 0
  SumTo row from w = Sums s value (To row from) w

  pub starts_sum : SumTo (at_stack start []) (item 0) s.one
  starts_sum = sums_one laws value fv (To (at_stack start []) (item 0)) [] (record { begin = at_stack start []; begins = (refl, refl); goes = refl })

  -- what is below is read on
  pub more_above : (q i g j : ℕ) (word : List ℕ) (begin : Configuration) (run : List ℕ) → IsIn (record { from = i; symbol = g; to = j }) edges
      → Begins start edges (item i) begin → Run p begin run (at_stack q word)
      → Begins start edges (item j) (at_stack begin.control (begin.stack ++ g ∷ [])) × Run p (at_stack begin.control (begin.stack ++ g ∷ [])) run (at_stack q (word ++ g ∷ []))
  more_above q i g j word begin run edge begins goes = ((begins.0, read_more edges begin.stack 0 g i j begins.1 edge), run_above p (g ∷ []) run begin (at_stack q word) goes)

  pub uncovered_sum : (q i g j : ℕ) → IsIn (record { from = i; symbol = g; to = j }) edges → (w : W) → SumTo (at_stack q []) (item i) w → SumTo (at_stack q (g ∷ [])) (item j) w
  uncovered_sum q i g j edge w sum = sums_within laws value fv (To (at_stack q []) (item i)) (To (at_stack q (g ∷ [])) (item j))
      (λ run is. let m = more_above q i g j [] is.begin run edge is.begins is.goes in
      record { begin = at_stack is.begin.control (is.begin.stack ++ g ∷ []); begins = m.0; goes = m.1 }) w sum

  -- a callee is entered by no rule
  pub entered_sum : (to g : ℕ) → SumTo (at_stack to (g ∷ [])) (callee to g) s.one
  entered_sum to g = sums_one laws value fv (To (at_stack to (g ∷ [])) (callee to g)) [] (record { begin = at_stack to (g ∷ []); begins = refl; goes = refl })

  module _ (k : ℕ) (r : Rule S W Map) (there : slice_get p.rules k ≡ Some r) where
    -- the rule alone, over what lies below
    pub alone : (word : List ℕ) → r.right ≡ word → (below : List ℕ) → Run p (at_stack r.control (r.symbol ∷ below)) (k ∷ []) (at_stack r.to (word ++ below))
    alone word right below = (at_stack r.to (r.right ++ below), fires p k r there below, ap (λ z. at_stack r.to (z ++ below)) right)

    stepped : (from : Source) (word : List ℕ) → r.right ≡ word → (run : List ℕ) → To (head_of r) from run → To (at_stack r.to word) from (run ++ k ∷ [])
    stepped from word right run is =
        let P : List ℕ → Type 0 = λ z. Run p (head_of r) (k ∷ []) (at_stack r.to z) in
        record {
          begin = is.begin;
          begins = is.begins;
          goes = run_then p run (k ∷ []) is.begin (head_of r) (at_stack r.to word) is.goes (subst P (append-nil word) (alone word right []));
        }

    step_sum_by : (word : List ℕ) → r.right ≡ word → length word ≤ 1 → (from : Source) (w : W) → SumTo (head_of r) from w → SumTo (at_stack r.to word) from (s.extend w r.weight)
    step_sum_by [] right few from w sum = sums_map laws value fv (To (head_of r) from) (To (at_stack r.to []) from) (λ a. a ++ k ∷ []) (λ a. s.extend a r.weight) (linear_right laws r.weight (weight_fits valid laws k r there))
        (λ run is. (stepped from [] right run is, pop_last valid laws k r there right run is.begin r.control r.symbol is.goes)) w sum
    step_sum_by (g ∷ []) right few from w sum = sums_map laws value fv (To (head_of r) from) (To (at_stack r.to (g ∷ [])) from) (λ a. a ++ k ∷ []) (λ a. s.extend a r.weight) (linear_right laws r.weight (weight_fits valid laws k r there))
        (λ run is. (stepped from (g ∷ []) right run is, step_last valid laws k r there g right run)) w sum
    step_sum_by (g ∷ h ∷ word) right few from w sum = absurd (omega arith)

    -- a rule to at most one symbol
    pub step_sum : length r.right ≤ 1 → (from : Source) (w : W) → SumTo (head_of r) from w → SumTo (at_stack r.to r.right) from (s.extend w r.weight)
    step_sum few from w sum = step_sum_by r.right refl few from w sum

    module _ (g h : ℕ) (right : r.right ≡ g ∷ h ∷ []) where
      abbrev m : Map
      m = unwrap_or r.map s.plain

      -- from the rule's head to where its callee has ended
      abbrev Through : ℕ → List ℕ → Type 0
      Through q run = Run p (head_of r) run (at_stack q (h ∷ []))

      called : (q : ℕ) (run : List ℕ) → To (at_stack q []) (callee r.to g) run → Through q (k ∷ run) × (value (k ∷ run) ≡ s.after m (s.extend r.weight (value run)))
      called q run is =
          let P : Configuration → Type 0 = λ c. Run p c run (at_stack q []) in
          let goes : Run p (at_stack r.to (g ∷ [])) run (at_stack q []) = subst P is.begins is.goes in
          let fm = map_fits valid laws k r there g h right in
          let fc = laws.fits-after m (s.extend r.weight (value run)) fm (laws.fits-extend r.weight (value run) (weight_fits valid laws k r there) (fv run)) in (
            run_then p (k ∷ []) run (head_of r) (at_stack r.to (g ∷ h ∷ [])) (at_stack q (h ∷ [])) (alone (g ∷ h ∷ []) right [])
                (run_above p (h ∷ []) run (at_stack r.to (g ∷ [])) (at_stack q []) goes),
            ap (λ z. value (k ∷ z)) (sym (append-nil run))
                ∙ push_value valid laws k r there g h right run [] (at_stack r.to (g ∷ [])) (at_stack q []) goes refl refl
                ∙ laws.extend-one_right (s.after m (s.extend r.weight (value run))) fc,
          )

      -- a call that comes back
      pub return_sum : (q : ℕ) (from : Source) (v w : W) → SumTo (head_of r) from v → SumTo (at_stack q []) (callee r.to g) w
          → SumTo (at_stack q (h ∷ [])) from (s.extend v (s.after m (s.extend r.weight w)))
      return_sum q from v w first second =
          let fm = map_fits valid laws k r there g h right in
          let fr = weight_fits valid laws k r there in
          let inner = sums_map laws value fv (To (at_stack q []) (callee r.to g)) (Through q) (λ a. k ∷ a) (λ a. s.after m (s.extend r.weight a)) (linear_after laws m r.weight fm fr) (λ run is. called q run is) w second in
          sums_pairs laws value fv (To (head_of r) from) (Through q) (To (at_stack q (h ∷ [])) from) (λ a b. a ++ b) s.extend (linear_right laws) (linear_left laws)
          (λ a b is goes. (
            record { begin = is.begin; begins = is.begins; goes = run_then p a b is.begin (head_of r) (at_stack q (h ∷ [])) is.goes goes },
            after_value valid laws a b (head_of r) (at_stack q (h ∷ [])) goes refl (λ e. cc),
          )) v (s.after m (s.extend r.weight w)) first inner
