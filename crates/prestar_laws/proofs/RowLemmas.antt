-- The rows make runs of their goals, and their candidates.
use Rattle.std.proofs.Common.{◌≡◌, inl, inr, ℕ, ◌<◌, ◌≤◌, List, [], ◌∷◌, ◌++◌, map, refl, sym, ap, ap₂, ◌∙◌, subst, arith}
use Rattle.std.specs.Prelude.{Some, slice_get, unwrap_or}
use Rattle.std.proofs.lemmas.List.{append-nil, map-id}
use Rattle.semiring_laws.specs.Semiring.{Operations, IsSemiring, Fits}
use Rattle.weighted_automata.specs.declared.place.Place.{Place}
use Rattle.weighted_automata.specs.declared.place.Label.TheVariants.{Symbol}
use Rattle.witness_graph.specs.declared.node.Side.TheVariants.{Pre}
use Rattle.witness_graph.specs.Runs.{concatenations, parts_runs, rule_runs}
use Rattle.pushdown_rules.specs.declared.rule.Rule.{Rule}
use Rattle.pushdown_rules.specs.Configuration.{Configuration}
use Rattle.pushdown_rules.specs.Pushdown.{Pushdown, IsSystem}
use Rattle.pushdown_rules.specs.Firing.{Run}
use Rattle.pushdown_rules.specs.RunValue.{Machine, starting, product, run_value}
use Rattle.pushdown_rules.specs.Values.{value_of}
use Rattle.wpds_base.specs.Lists.{IsIn}
use Rattle.saturation_laws.specs.Directions.{AreRuns}
use Rattle.pushdown_rules.proofs.CallerLemmas.{rule_at, value_fits, fires, run_above, run_then, by_word, rules_cons, step_value, push_value, open_value, ends_control, weight_fits, map_fits}
use Rattle.saturation_laws.specs.Paths.{Reads}
use Rattle.prestar_laws.specs.Reading.{LeadsTo, PreRun}
use Rattle.saturation_laws.proofs.CallerLemmas.{IsLinear, linear, bilinear, all_map, all_pairs, then_empty, after_rule}
use Rattle.direction_parts.specs.Places.{LeadsToItems}
use Rattle.direction_parts.proofs.CallerLemmas.{linear_extend}

module _ {S W Map : Type 0} {operations : S → Operations W Map} {p : Pushdown S W Map} (valid : IsSystem operations p) (laws : IsSemiring (operations p.semiring)) where
  abbrev s : Operations W Map
  s = operations p.semiring

  abbrev value : List ℕ → W
  value = value_of s p

  pub fits : (run : List ℕ) → Fits s (value run)
  fits = value_fits valid laws

  -- a pop rule alone
  pub pop_value : (k : ℕ) (r : Rule S W Map) → slice_get p.rules k ≡ Some r → r.right ≡ [] → value (k ∷ []) ≡ r.weight
  pop_value k r there none =
      ap (run_value s) (rules_cons s p k r [] there) ∙ ap (λ (m : Machine W Map). product s m.frames m.accumulator) (by_word s r [] (starting s) none)
      ∙ laws.extend-one_left r.weight (weight_fits valid laws k r there)

  module _ (edges : List Place) where
    abbrev runs : Place → List ℕ → Type 0
    runs = PreRun p edges

    pub from_control : (c g q : ℕ) (run : List ℕ) → c < p.controls → runs (record { from = c; label = Symbol g; to = q }) run → LeadsTo p edges c g q run
    from_control c g q run control (inl leads) = leads.1
    from_control c g q run control (inr other) = absurd (let h : p.controls ≤ c = other.0 in omega arith)

    pub from_item : (c g q : ℕ) (run : List ℕ) → p.controls ≤ c → runs (record { from = c; label = Symbol g; to = q }) run
        → IsIn (record { from = c; label = Symbol g; to = q }) edges × (run ≡ [])
    from_item c g q run item (inl leads) = absurd (let h : c < p.controls = leads.0 in omega arith)
    from_item c g q run item (inr other) = (other.1, other.2)

    module _ (k : ℕ) (r : Rule S W Map) (there : slice_get p.rules k ≡ Some r) where
      abbrev goal : ℕ → Place
      goal q = record { from = r.control; label = Symbol r.symbol; to = q }

      -- the rule, and a run from what it leaves
      begins : (word : List ℕ) → r.right ≡ word → (q : ℕ) (run : List ℕ) (d : Configuration) → Run p (record { control = r.to; stack = word }) run d → Reads edges d.control d.stack q
          → runs (goal q) (k ∷ run)
      begins word right q run d goes reads =
          let at : List ℕ → Configuration = λ w. record { control = r.to; stack = w } in
          inl (
            (rule_at valid k r there).control,
            (d, (at word, fires p k r there [] ∙ ap (λ w. Some (at w)) (append-nil r.right ∙ right), goes), reads),
          )

      step_run : (g : ℕ) → r.right ≡ g ∷ [] → (q : ℕ) (a : List ℕ) → runs (record { from = r.to; label = Symbol g; to = q }) a → runs (goal q) (k ∷ a)
      step_run g right q a is =
          let leads = from_control r.to g q a (rule_at valid k r there).to is in
          begins (g ∷ []) right q a leads.0 leads.1 leads.2

      -- the step row
      pub step_sound : (g : ℕ) → r.right ≡ g ∷ [] → (q : ℕ) (w : W) (xs : List (List ℕ)) → AreRuns s value runs (record { from = r.to; label = Symbol g; to = q }) w xs
          → AreRuns s value runs (goal q) (s.extend r.weight w) (parts_runs Pre (rule_runs (Some k)) xs ([] ∷ []))
      step_sound g right q w xs is =
          let first : List ℕ → List ℕ = λ z. k ∷ z in
          let same : List ℕ → List ℕ = λ z. z in
          let all : parts_runs Pre (rule_runs (Some k)) xs ([] ∷ []) ≡ map first (map same xs) =
          after_rule k (concatenations xs ([] ∷ [])) ∙ ap (map first) (then_empty xs ∙ sym (map-id xs)) in
          let P : List ℕ → Type 0 = runs (record { from = r.to; label = Symbol g; to = q }) in
          let Q : List (List ℕ) → Type 0 = AreRuns s value runs (goal q) (s.extend r.weight w) in
          subst Q (sym all) (record {
            each = all_map (runs (goal q)) first same P (λ a run. step_run g right q a run) xs is.each;
            weight = ap (s.extend r.weight) is.weight
                ∙ sym (linear laws value fits (s.extend r.weight) (linear_extend laws r.weight (weight_fits valid laws k r there)) first same P (λ a _. step_value valid laws k r there g right a) xs is.each);
          })

      module _ (g₁ g₂ : ℕ) (right : r.right ≡ g₁ ∷ g₂ ∷ []) (q₁ q : ℕ) where
        abbrev callee : Place
        callee = record { from = r.to; label = Symbol g₁; to = q₁ }

        abbrev rest : Place
        rest = record { from = q₁; label = Symbol g₂; to = q }

        -- a run from the callee goes through above what is below it
        pub through : (a : List ℕ) (d : Configuration) → Run p (record { control = r.to; stack = g₁ ∷ [] }) a d
            → Run p (record { control = r.to; stack = g₁ ∷ g₂ ∷ [] }) a (record { control = d.control; stack = d.stack ++ g₂ ∷ [] })
        through a d goes = run_above p (g₂ ∷ []) a (record { control = r.to; stack = g₁ ∷ [] }) d goes

        module _ (items : LeadsToItems p.controls edges) (control : q₁ < p.controls) where
          -- no edge leads to a control, so the callee has come back to it
          pub comes_back : (from : ℕ) (word : List ℕ) → Reads edges from word q₁ → (word ≡ []) × (from ≡ q₁)
          comes_back from [] reads = (refl, reads)
          comes_back from (g ∷ word) reads =
              let next = comes_back reads.0 word reads.2 in
              absurd (let h : p.controls ≤ reads.0 = items _ reads.1 in let e : reads.0 ≡ q₁ = next.1 in omega arith)

          pub back : (a : List ℕ) → runs callee a → (d : Configuration) × Run p (record { control = r.to; stack = g₁ ∷ [] }) a d × (d ≡ record { control = q₁; stack = [] })
          back a is =
              let leads = from_control r.to g₁ q₁ a (rule_at valid k r there).to is in
              let home = comes_back leads.0.control leads.0.stack leads.2 in
              let at : ℕ → List ℕ → Configuration = λ n w. record { control = n; stack = w } in
              (leads.0, leads.1, ap₂ at home.1 home.0)

          call_run : (a b : List ℕ) → runs callee a → runs rest b → runs (goal q) (k ∷ (a ++ b))
          call_run a b is more =
              let first = back a is in
              let next = from_control q₁ g₂ q b control more in
              let P : Configuration → Type 0 = λ d. Run p (record { control = r.to; stack = g₁ ∷ g₂ ∷ [] }) a (record { control = d.control; stack = d.stack ++ g₂ ∷ [] }) in
              begins (g₁ ∷ g₂ ∷ []) right q (a ++ b) next.0
              (run_then p a b _ _ next.0 (subst P first.2 (through a first.0 first.1)) next.1) next.2

          call_value : (a b : List ℕ) → runs callee a → runs rest b → value (k ∷ (a ++ b)) ≡ s.extend (s.after (unwrap_or r.map s.plain) (s.extend r.weight (value a))) (value b)
          call_value a b is more =
              let first = back a is in
              push_value valid laws k r there g₁ g₂ right a b _ first.0 first.1 refl (ap (λ (d : Configuration). d.stack) first.2)

          -- the push row at a control
          pub call_sound : (v w : W) (xs ys : List (List ℕ)) → AreRuns s value runs callee v xs → AreRuns s value runs rest w ys
              → AreRuns s value runs (goal q) (s.extend (s.after (unwrap_or r.map s.plain) (s.extend r.weight v)) w) (parts_runs Pre (rule_runs (Some k)) xs ys)
          call_sound v w xs ys first second =
              let f : List ℕ → List ℕ = λ z. k ∷ z in
              let m = unwrap_or r.map s.plain in
              let fit_map = map_fits valid laws k r there g₁ g₂ right in
              let fit_rule = weight_fits valid laws k r there in
              let F : W → W → W = λ x y. s.extend (s.after m (s.extend r.weight x)) y in
              let left : (b : W) → Fits s b → IsLinear s (λ a. F a b) = λ b fb. record {
                strict = ap (λ x. s.extend (s.after m x) b) (laws.extend-zero_right r.weight fit_rule) ∙ ap (λ x. s.extend x b) (laws.after-zero m fit_map) ∙ laws.extend-zero_left b fb;
                adds = λ x y fx fy.
                    let ex = laws.fits-extend r.weight x fit_rule fx in
                    let ey = laws.fits-extend r.weight y fit_rule fy in
                    ap (λ z. s.extend (s.after m z) b) (laws.extend-combine_right r.weight x y fit_rule fx fy)
                    ∙ ap (λ z. s.extend z b) (laws.after-combine m (s.extend r.weight x) (s.extend r.weight y) fit_map ex ey)
                    ∙ laws.extend-combine_left (s.after m (s.extend r.weight x)) (s.after m (s.extend r.weight y)) b (laws.fits-after m _ fit_map ex) (laws.fits-after m _ fit_map ey) fb;
              } in
              let across : (a : W) → Fits s a → IsLinear s (F a) = λ a fa. linear_extend laws (s.after m (s.extend r.weight a)) (laws.fits-after m _ fit_map (laws.fits-extend r.weight a fit_rule fa)) in
              let Q : List (List ℕ) → Type 0 = AreRuns s value runs (goal q) (F v w) in
              subst Q (sym (after_rule k (concatenations xs ys))) (record {
                each = all_pairs (runs (goal q)) f (runs callee) (runs rest) call_run xs ys first.each second.each;
                weight = ap₂ F first.weight second.weight
                    ∙ sym (bilinear laws value fits F left across f (runs callee) (runs rest) call_value xs ys first.each second.each);
              })

        module _ (item : p.controls ≤ q₁) where
          -- the edges read the callee's end, and then one symbol more
          pub reads_on : (from : ℕ) (word : List ℕ) → Reads edges from word q₁ → IsIn rest edges → Reads edges from (word ++ g₂ ∷ []) q
          reads_on from [] reads edge =
              let P : ℕ → Type 0 = λ n. IsIn (record { from = n; label = Symbol g₂; to = q }) edges in
              (q, subst P (sym reads) edge, refl)
          reads_on from (g ∷ word) reads edge = (reads.0, reads.1, reads_on reads.0 word reads.2 edge)

          open_run : (a b : List ℕ) → runs callee a → runs rest b → runs (goal q) (k ∷ (a ++ b))
          open_run a b is more =
              let leads = from_control r.to g₁ q₁ a (rule_at valid k r there).to is in
              let edge = from_item q₁ g₂ q b item more in
              let P : List ℕ → Type 0 = λ z. runs (goal q) (k ∷ z) in
              subst P (sym (append-nil a) ∙ ap (λ z. a ++ z) (sym edge.1))
              (begins (g₁ ∷ g₂ ∷ []) right q a _ (through a leads.0 leads.1) (reads_on leads.0.control leads.0.stack leads.2 edge.0))

          open_run_value : (a b : List ℕ) → runs callee a → runs rest b → value (k ∷ (a ++ b)) ≡ s.extend (s.extend r.weight (value a)) (value b)
          open_run_value a b is more =
              let leads = from_control r.to g₁ q₁ a (rule_at valid k r there).to is in
              let edge = from_item q₁ g₂ q b item more in
              let d = leads.0 in
              let ends : d.control < p.controls = ends_control valid laws a (record { control = r.to; stack = g₁ ∷ [] }) d leads.1 (rule_at valid k r there).to in
              let full : d.stack ≡ [] → ⊥ = λ empty.
              let at : d.control ≡ q₁ = subst (λ w. Reads edges d.control w q₁) empty leads.2 in omega arith in
              let none : b ≡ [] = edge.1 in
              let fit_a = laws.fits-extend r.weight (value a) (weight_fits valid laws k r there) (fits a) in
              ap (λ z. value (k ∷ z)) (ap (λ z. a ++ z) none ∙ append-nil a)
              ∙ open_value valid laws k r there g₁ g₂ right a (record { control = r.to; stack = g₁ ∷ [] }) d leads.1 refl full
              ∙ sym (ap (λ z. s.extend (s.extend r.weight (value a)) (value z)) none ∙ laws.extend-one_right (s.extend r.weight (value a)) fit_a)

          -- the push row at a state that is no control
          pub open_sound : (v w : W) (xs ys : List (List ℕ)) → AreRuns s value runs callee v xs → AreRuns s value runs rest w ys
              → AreRuns s value runs (goal q) (s.extend (s.extend r.weight v) w) (parts_runs Pre (rule_runs (Some k)) xs ys)
          open_sound v w xs ys first second =
              let f : List ℕ → List ℕ = λ z. k ∷ z in
              let fit_rule = weight_fits valid laws k r there in
              let F : W → W → W = λ x y. s.extend (s.extend r.weight x) y in
              let left : (b : W) → Fits s b → IsLinear s (λ a. F a b) = λ b fb. record {
                strict = ap (λ x. s.extend x b) (laws.extend-zero_right r.weight fit_rule) ∙ laws.extend-zero_left b fb;
                adds = λ x y fx fy.
                    ap (λ z. s.extend z b) (laws.extend-combine_right r.weight x y fit_rule fx fy)
                    ∙ laws.extend-combine_left (s.extend r.weight x) (s.extend r.weight y) b (laws.fits-extend r.weight x fit_rule fx) (laws.fits-extend r.weight y fit_rule fy) fb;
              } in
              let across : (a : W) → Fits s a → IsLinear s (F a) = λ a fa. linear_extend laws (s.extend r.weight a) (laws.fits-extend r.weight a fit_rule fa) in
              let Q : List (List ℕ) → Type 0 = AreRuns s value runs (goal q) (F v w) in
              subst Q (sym (after_rule k (concatenations xs ys))) (record {
                each = all_pairs (runs (goal q)) f (runs callee) (runs rest) open_run xs ys first.each second.each;
                weight = ap₂ F first.weight second.weight
                    ∙ sym (bilinear laws value fits F left across f (runs callee) (runs rest) open_run_value xs ys first.each second.each);
              })
