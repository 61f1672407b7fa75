-- Each step keeps a search settled, in whatever order the steps come.
use Rattle.std.proofs.Common.{◌≡◌, ◌⊎◌, inl, inr, ℕ, List, [], ◌∷◌, refl, sym, ◌∙◌, subst}
use Rattle.std.specs.Prelude.{Some, slice_get, unwrap_or}
use Rattle.semiring_laws.specs.Semiring.{Operations, IsSemiring, Fits, Below}
use Rattle.semiring_laws.proofs.CallerLemmas.{below_itself, below_trans}
use Rattle.pushdown_rules.specs.declared.rule.Rule.{Rule}
use Rattle.pushdown_rules.specs.Configuration.{Configuration, at_stack}
use Rattle.pushdown_rules.specs.Pushdown.{Pushdown, IsSystem}
use Rattle.pushdown_rules.proofs.CallerLemmas.{weight_fits, map_fits}
use Rattle.config_patterns.specs.declared.edge.Edge.{Edge}
use Rattle.forward_value_laws.specs.Model.{Source, item, callee, head_of, IsClosed}
use Rattle.forward_value_laws.specs.Settling.{call_weight, But, Lowers, IsSettled, IsGiven}

module _ {S W Map : Type 0} {operations : S → Operations W Map} {p : Pushdown S W Map} (valid : IsSystem operations p) (laws : IsSemiring (operations p.semiring)) (start : ℕ) (edges : List Edge) where
  abbrev s : Operations W Map
  s = operations p.semiring

  abbrev Weights : Type 0
  Weights = Configuration → Source → W

  abbrev call_fits : (k : ℕ) (r : Rule S W Map) → slice_get p.rules k ≡ Some r → (g h : ℕ) → r.right ≡ g ∷ h ∷ [] → (w : W) → Fits s w → Fits s (call_weight s r w)
  call_fits k r there g h right w fw = laws.fits-after (unwrap_or r.map s.plain) (s.extend r.weight w) (map_fits valid laws k r there g h right) (laws.fits-extend r.weight w (weight_fits valid laws k r there) fw)

  module _ (weight : Weights) (calm : Configuration → Source → Type 0) (weight' : Weights) (calm' : Configuration → Source → Type 0) (fits : (row : Configuration) (from : Source) → Fits s (weight row from))
      (lowers : Lowers s weight calm weight' calm') where
    -- what was below a weight is so still, since weights fall alone
    pub goal_falls : (row : Configuration) (from : Source) (v : W) → Fits s v → Below s (weight row from) v → Below s (weight' row from) v
    goal_falls row from v fv below = below_trans laws (weight' row from) (weight row from) v (lowers.fits row from) (fits row from) fv (lowers.below row from) below

    -- to lower keeps a search settled
    pub lowers_settled : IsSettled s p start edges weight calm → IsSettled s p start edges weight' calm'
    lowers_settled is = record {
      fits = lowers.fits;
      starts = goal_falls (at_stack start []) (item 0) s.one laws.fits-one is.starts;
      uncovers = λ q i g j edge c.
          let same = lowers.same (at_stack q []) (item i) c in
          let P : W → Type 0 = Below s (weight' (at_stack q (g ∷ [])) (item j)) in
          subst P (sym same.0) (goal_falls (at_stack q (g ∷ [])) (item j) (weight (at_stack q []) (item i)) (fits (at_stack q []) (item i)) (is.uncovers q i g j edge same.1));
      steps = λ k r there few from c.
          let same = lowers.same (head_of r) from c in
          let P : W → Type 0 = λ w. Below s (weight' (at_stack r.to r.right) from) (s.extend w r.weight) in
          subst P (sym same.0) (goal_falls (at_stack r.to r.right) from (s.extend (weight (head_of r) from) r.weight) (laws.fits-extend (weight (head_of r) from) r.weight (fits (head_of r) from) (weight_fits valid laws k r there))
          (is.steps k r there few from same.1));
      enters = λ k r there g h right from c some.
          let same = lowers.same (head_of r) from c in
          goal_falls (at_stack r.to (g ∷ [])) (callee r.to g) s.one laws.fits-one (is.enters k r there g h right from same.1 (λ z. some (same.0 ∙ z)));
      returns = λ k r there g h right q from c c'.
          let same = lowers.same (head_of r) from c in
          let same' = lowers.same (at_stack q []) (callee r.to g) c' in
          let ends = weight (at_stack q []) (callee r.to g) in
          let P : W → Type 0 = λ w. Below s (weight' (at_stack q (h ∷ [])) from) (s.extend w (call_weight s r ends)) in
          let Q : W → Type 0 = λ w. Below s (weight' (at_stack q (h ∷ [])) from) (s.extend (weight' (head_of r) from) (call_weight s r w)) in
          subst Q (sym same'.0) (subst P (sym same.0) (goal_falls (at_stack q (h ∷ [])) from (s.extend (weight (head_of r) from) (call_weight s r ends))
          (laws.fits-extend (weight (head_of r) from) (call_weight s r ends) (fits (head_of r) from) (call_fits k r there g h right ends (fits (at_stack q []) (callee r.to g))))
          (is.returns k r there g h right q from same.1 same'.1)));
    }

    -- and what a place gave it gives still
    pub lowers_given : (here : Configuration → Source → Type 0) (w : W) → Fits s w → IsGiven s p start edges weight calm here w → IsGiven s p start edges weight' calm' here w
    lowers_given here w fw is = record {
      uncovers = λ q i at g j edge. goal_falls (at_stack q (g ∷ [])) (item j) w fw (is.uncovers q i at g j edge);
      steps = λ k r there from at few. goal_falls (at_stack r.to r.right) from (s.extend w r.weight) (laws.fits-extend w r.weight fw (weight_fits valid laws k r there)) (is.steps k r there from at few);
      enters = λ k r there from at g h right some. goal_falls (at_stack r.to (g ∷ [])) (callee r.to g) s.one laws.fits-one (is.enters k r there from at g h right some);
      calls = λ k r there from at g h right q c.
          let same = lowers.same (at_stack q []) (callee r.to g) c in
          let ends = weight (at_stack q []) (callee r.to g) in
          let P : W → Type 0 = λ v. Below s (weight' (at_stack q (h ∷ [])) from) (s.extend w (call_weight s r v)) in
          subst P (sym same.0) (goal_falls (at_stack q (h ∷ [])) from (s.extend w (call_weight s r ends)) (laws.fits-extend w (call_weight s r ends) fw (call_fits k r there g h right ends (fits (at_stack q []) (callee r.to g))))
          (is.calls k r there from at g h right q same.1));
      ends = λ q k r there g h right at x c.
          let same = lowers.same (head_of r) x c in
          let P : W → Type 0 = λ v. Below s (weight' (at_stack q (h ∷ [])) x) (s.extend v (call_weight s r w)) in
          subst P (sym same.0) (goal_falls (at_stack q (h ∷ [])) x (s.extend (weight (head_of r) x) (call_weight s r w)) (laws.fits-extend (weight (head_of r) x) (call_weight s r w) (fits (head_of r) x) (call_fits k r there g h right w fw))
          (is.ends q k r there g h right at x same.1));
    }

    -- lowering leaves out what was left out
    pub lowers_but : (here : Configuration → Source → Type 0) → Lowers s weight (But here calm) weight' (But here calm')
    lowers_but here = record {
      fits = lowers.fits;
      below = lowers.below;
      same = λ row from c. let same = lowers.same row from c.0 in (same.0, (same.1, c.1));
    }

  -- nothing is lowered, and less is calm
  pub calmed_less : (weight : Weights) (calm calm' : Configuration → Source → Type 0) → ((row : Configuration) (from : Source) → Fits s (weight row from)) → ((row : Configuration) (from : Source) → calm' row from → calm row from)
      → Lowers s weight calm weight calm'
  calmed_less weight calm calm' fits less = record {
    fits = fits;
    below = λ row from. below_itself laws (weight row from) (fits row from);
    same = λ row from c. (refl, less row from c);
  }

  pub lowers_on : (weight : Weights) (calm : Configuration → Source → Type 0) (weight' : Weights) (calm' : Configuration → Source → Type 0) (weight'' : Weights) (calm'' : Configuration → Source → Type 0)
      → ((row : Configuration) (from : Source) → Fits s (weight row from)) → Lowers s weight calm weight' calm' → Lowers s weight' calm' weight'' calm'' → Lowers s weight calm weight'' calm''
  lowers_on weight calm weight' calm' weight'' calm'' fits one two = record {
    fits = two.fits;
    below = λ row from. below_trans laws (weight'' row from) (weight' row from) (weight row from) (two.fits row from) (one.fits row from) (fits row from) (two.below row from) (one.below row from);
    same = λ row from c. let a = two.same row from c in let b = one.same row from a.1 in (a.0 ∙ b.0, b.1);
  }

  module _ (weight : Weights) (calm here : Configuration → Source → Type 0) (here_or : (row : Configuration) (from : Source) → here row from ⊎ (here row from → ⊥)) (w : W)
      (still : (row : Configuration) (from : Source) → here row from → calm row from → weight row from ≡ w)
      (is : IsSettled s p start edges weight (But here calm)) (given : IsGiven s p start edges weight calm here w) where
    -- places that have given all they give are as the others
    pub taken_settled : IsSettled s p start edges weight calm
    taken_settled = record {
      fits = is.fits;
      starts = is.starts;
      uncovers = λ q i g j edge c. elim (here_or (at_stack q []) (item i)) [
        | inl at ↦
            let P : W → Type 0 = Below s (weight (at_stack q (g ∷ [])) (item j)) in
            subst P (sym (still (at_stack q []) (item i) at c)) (given.uncovers q i at g j edge)
        | inr other ↦ is.uncovers q i g j edge (c, other)
      ];
      steps = λ k r there few from c. elim (here_or (head_of r) from) [
        | inl at ↦
            let P : W → Type 0 = λ v. Below s (weight (at_stack r.to r.right) from) (s.extend v r.weight) in
            subst P (sym (still (head_of r) from at c)) (given.steps k r there from at few)
        | inr other ↦ is.steps k r there few from (c, other)
      ];
      enters = λ k r there g h right from c some. elim (here_or (head_of r) from) [
        | inl at ↦ given.enters k r there from at g h right (λ z. some (still (head_of r) from at c ∙ z))
        | inr other ↦ is.enters k r there g h right from (c, other) some
      ];
      returns = λ k r there g h right q from c c'. elim (here_or (head_of r) from) [
        | inl at ↦
            let v = call_weight s r (weight (at_stack q []) (callee r.to g)) in
            let P : W → Type 0 = λ u. Below s (weight (at_stack q (h ∷ [])) from) (s.extend u v) in
            subst P (sym (still (head_of r) from at c)) (given.calls k r there from at g h right q c')
        | inr other ↦ elim (here_or (at_stack q []) (callee r.to g)) [
          | inl at ↦
              let P : W → Type 0 = λ u. Below s (weight (at_stack q (h ∷ [])) from) (s.extend (weight (head_of r) from) (call_weight s r u)) in
              subst P (sym (still (at_stack q []) (callee r.to g) at c')) (given.ends q k r there g h right at from c)
          | inr other' ↦ is.returns k r there g h right q from (c, other) (c', other')
        ]
      ];
    }

  -- where nothing waits, nothing is left to do
  pub calm_closed : (weight : Weights) (calm : Configuration → Source → Type 0) → ((row : Configuration) (from : Source) → calm row from) → IsSettled s p start edges weight calm → IsClosed s p start edges weight
  calm_closed weight calm all is = record {
    fits = is.fits;
    starts = is.starts;
    uncovers = λ q i g j edge. is.uncovers q i g j edge (all (at_stack q []) (item i));
    steps = λ k r there few from. is.steps k r there few from (all (head_of r) from);
    enters = λ k r there g h right from some. is.enters k r there g h right from (all (head_of r) from) some;
    returns = λ k r there g h right q from. is.returns k r there g h right q from (all (head_of r) from) (all (at_stack q []) (callee r.to g));
  }
