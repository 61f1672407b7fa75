-- The first rule of a run, and what lies below the value of a run that begins with it.
use Rattle.std.proofs.Common.{◌≡◌, ℕ, ◌≤◌, List, [], ◌∷◌, ◌++◌, length, refl, sym, ap, ◌∙◌, subst}
use Rattle.std.specs.Prelude.{Some, slice_get, unwrap_or}
use Rattle.std.proofs.lemmas.List.{append-nil}
use Rattle.semiring_laws.specs.Semiring.{Operations, IsSemiring, Fits, FitsMap, Below}
use Rattle.semiring_laws.proofs.CallerLemmas.{below_trans, extend_keeps_below, extend_left_keeps_below, after_keeps_below}
use Rattle.pushdown_rules.specs.declared.rule.Rule.{Rule}
use Rattle.pushdown_rules.specs.Configuration.{Configuration, at_stack}
use Rattle.pushdown_rules.specs.Pushdown.{Pushdown, IsSystem}
use Rattle.pushdown_rules.specs.Firing.{Run}
use Rattle.pushdown_rules.specs.RunValue.{Machine, starting, product, run_value}
use Rattle.pushdown_rules.specs.Values.{value_of}
use Rattle.pushdown_rules.proofs.CallerLemmas.{fired, rule_at, rules_cons, by_word, value_fits, weight_fits, map_fits, step_value, push_value, open_value}
use Rattle.value_laws.specs.Settled.{first_worth, returned_worth}

-- The rule that a run begins with, and the rest of the run.
pub record Begins {S W Map : Type 0} (p : Pushdown S W Map) (from g k : ℕ) (run : List ℕ) (d : Configuration) : Type 0 where
  pub rule : Rule S W Map
  pub there : slice_get p.rules k ≡ Some rule
  pub control : rule.control ≡ from
  pub symbol : rule.symbol ≡ g
  pub goes : Run p (at_stack rule.to rule.right) run d

pub begins : {S W Map : Type 0} (p : Pushdown S W Map) (from g k : ℕ) (run : List ℕ) (d : Configuration) → Run p (at_stack from (g ∷ [])) (k ∷ run) d → Begins p from g k run d
begins p from g k run d goes =
    let f = fired p k (at_stack from (g ∷ [])) goes.0 goes.1 in
    let r = f.rule in
    let stack : g ∷ [] ≡ r.symbol ∷ f.rest = ap (λ (x : Configuration). x.stack) f.head in
    let same : g ≡ r.symbol = cc in
    let none : [] ≡ f.rest = cc in
    let mid : goes.0 ≡ at_stack r.to r.right = f.after ∙ ap (at_stack r.to) (ap (λ w. r.right ++ w) (sym none) ∙ append-nil r.right) in
    let P : Configuration → Type 0 = λ c. Run p c run d in
    record {
      rule = r;
      there = f.there;
      control = sym (ap (λ (x : Configuration). x.control) f.head);
      symbol = sym same;
      goes = subst P mid goes.2;
    }

module _ {S W Map : Type 0} {operations : S → Operations W Map} {p : Pushdown S W Map} (valid : IsSystem operations p) (laws : IsSemiring (operations p.semiring)) where
  abbrev s : Operations W Map
  s = operations p.semiring

  abbrev value : List ℕ → W
  value = value_of s p

  pub fv : (run : List ℕ) → Fits s (value run)
  fv run = value_fits valid laws run

  module _ (k : ℕ) (r : Rule S W Map) (there : slice_get p.rules k ≡ Some r) where
    fr : Fits s r.weight
    fr = weight_fits valid laws k r there

    pub few : length r.right ≤ 2
    few = (rule_at valid k r there).fits.short

    -- a rule that leaves nothing
    pub pop_value : r.right ≡ [] → value (k ∷ []) ≡ r.weight
    pop_value right =
        ap (run_value s) (rules_cons s p k r [] there) ∙ ap (λ (m : Machine W Map). product s m.frames m.accumulator) (by_word s r [] (starting s) right) ∙ laws.extend-one_left r.weight fr

    pub fits_first : (x : W) → Fits s x → Fits s (first_worth s r x)
    fits_first x fx = laws.fits-extend r.weight x fr fx

    -- a step
    pub step_below : (g : ℕ) → r.right ≡ g ∷ [] → (run : List ℕ) (w x : W) → Fits s w → Fits s x → Below s w (first_worth s r x) → Below s x (value run) → Below s w (value (k ∷ run))
    step_below g right run w x fw fx below rest =
        let P : W → Type 0 = Below s w in
        subst P (sym (step_value valid laws k r there g right run))
        (below_trans laws w (first_worth s r x) (first_worth s r (value run)) fw (fits_first x fx) (fits_first (value run) (fv run)) below
        (extend_left_keeps_below laws r.weight x (value run) fr fx (fv run) rest))

    module _ (g h : ℕ) (right : r.right ≡ g ∷ h ∷ []) where
      pub fits_inside : (x : W) → Fits s x → Fits s (s.after (unwrap_or r.map s.plain) (first_worth s r x))
      fits_inside x fx = laws.fits-after (unwrap_or r.map s.plain) (first_worth s r x) (map_fits valid laws k r there g h right) (fits_first x fx)

      -- a call that returns
      pub call_below : (run a b : List ℕ) (mid : ℕ) → run ≡ a ++ b → Run p (at_stack r.to (g ∷ [])) a (at_stack mid []) → (w x y : W) → Fits s w → Fits s x → Fits s y
          → Below s w (returned_worth s r x y) → Below s x (value a) → Below s y (value b) → Below s w (value (k ∷ run))
      call_below run a b mid joins goes w x y fw fx fy below first rest =
          let m = unwrap_or r.map s.plain in
          let fm : FitsMap s m = map_fits valid laws k r there g h right in
          let inside = after_keeps_below laws m (first_worth s r x) (first_worth s r (value a)) fm (fits_first x fx) (fits_first (value a) (fv a))
          (extend_left_keeps_below laws r.weight x (value a) fr fx (fv a) first) in
          let i = s.after m (first_worth s r x) in
          let j = s.after m (first_worth s r (value a)) in
          let fi = fits_inside x fx in
          let fj = fits_inside (value a) (fv a) in
          let P : W → Type 0 = Below s w in
          subst P (sym (ap (λ v. value (k ∷ v)) joins ∙ push_value valid laws k r there g h right a b (at_stack r.to (g ∷ [])) (at_stack mid []) goes refl refl))
          (below_trans laws w (s.extend i y) (s.extend j (value b)) fw (laws.fits-extend i y fi fy) (laws.fits-extend j (value b) fj (fv b)) below
          (extend_keeps_below laws i j y (value b) fi fj fy (fv b) inside rest))

      -- a call that stays open
      pub open_below : (run : List ℕ) (d : Configuration) → Run p (at_stack r.to (g ∷ [])) run d → (d.stack ≡ [] → ⊥) → (w x : W) → Fits s w → Fits s x
          → Below s w (first_worth s r x) → Below s x (value run) → Below s w (value (k ∷ run))
      open_below run d goes full w x fw fx below rest =
          let P : W → Type 0 = Below s w in
          subst P (sym (open_value valid laws k r there g h right run (at_stack r.to (g ∷ [])) d goes refl full))
          (below_trans laws w (first_worth s r x) (first_worth s r (value run)) fw (fits_first x fx) (fits_first (value run) (fv run)) below
          (extend_left_keeps_below laws r.weight x (value run) fr fx (fv run) rest))
