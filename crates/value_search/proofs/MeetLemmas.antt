-- What is met stays met, and what a rule is not asked for.
use Rattle.std.proofs.Common.{◌≡◌, ◌⊎◌, ℕ, List, [], ◌∷◌, refl, sym, ap, ap₂, ◌∙◌, subst}
use Rattle.std.specs.Prelude.{Option, None, Some, slice_get, true, false, ◌&&◌}
use Rattle.std.proofs.lemmas.Bool.{eq-eqb}
use Rattle.semiring_laws.specs.Semiring.{Operations, IsSemiring, Fits, Below}
use Rattle.semiring_laws.proofs.CallerLemmas.{below_itself, below_zero}
use Rattle.pushdown_rules.specs.declared.rule.Rule.{Rule}
use Rattle.pushdown_rules.specs.Pushdown.{Pushdown, IsSystem}
use Rattle.pushdown_rules.specs.Rows.{goes_onto, pushes_over, first_of, second_of, is_symbol}
use Rattle.config_patterns.specs.Membership.{PatternValue}
use Rattle.value_laws.specs.Settled.{Table, AreWeights, first_worth, returned_worth}
use Rattle.value_laws.specs.Steps.{IsFurther}
use Rattle.value_laws.proofs.CallerLemmas.{first_kept, returned_kept, nothing_first, nothing_second}
use Rattle.weight_tables.specs.Entries.{TableEntry, IsTable}
use Rattle.value_search.specs.Views.{weights, counting}
use Rattle.value_search.specs.Met.{IsPushMet, IsOntoMet, IsOverMet}
use Rattle.value_search.proofs.ViewLemmas.{weights_fit, counting_fits}

module _ {S W Map : Type 0} {operations : S → Operations W Map} {p : Pushdown S W Map} (valid : IsSystem operations p) (laws : IsSemiring (operations p.semiring)) where
  abbrev s : Operations W Map
  s = operations p.semiring

  abbrev Further : List (TableEntry W) → List (TableEntry W) → Type 0
  Further es es' = IsFurther s (weights s es) (counting s es) (weights s es') (counting s es')

  module _ (es es' : List (TableEntry W)) (table : IsTable s es) (table' : IsTable s es') (further : Further es es') where
    abbrev w : Table W
    w = weights s es

    abbrev w' : Table W
    w' = weights s es'

    abbrev n : Table W
    n = counting s es

    abbrev n' : Table W
    n' = counting s es'

    fw : AreWeights s w
    fw = weights_fit laws es table

    fw' : AreWeights s w'
    fw' = weights_fit laws es' table'

    fn : AreWeights s n
    fn = counting_fits laws es table

    fn' : AreWeights s n'
    fn' = counting_fits laws es' table'

    -- a rule with what counts of one transition
    first_later : (k : ℕ) (r : Rule S W Map) → slice_get p.rules k ≡ Some r → (to c g q : ℕ) → Below s (w r.control r.symbol to) (first_worth s r (n c g q)) → Below s (w' r.control r.symbol to) (first_worth s r (n' c g q))
    first_later k r there to c g q below = first_kept valid laws k r there (w r.control r.symbol to) (w' r.control r.symbol to) (n c g q) (n' c g q) (fw r.control r.symbol to) (fw' r.control r.symbol to) (fn c g q)
        (further.falls r.control r.symbol to) (further.counts c g q) below

    module _ (k : ℕ) (r : Rule S W Map) (there : slice_get p.rules k ≡ Some r) (g h : ℕ) (right : r.right ≡ g ∷ h ∷ []) where
      pub push_later : (target : Option PatternValue) (c q : ℕ) → IsPushMet s p target r c g q h es → IsPushMet s p target r c g q h es'
      push_later None c q met = λ to. returned_kept valid laws k r there g h right (w r.control r.symbol to) (w' r.control r.symbol to) (n c g q) (n' c g q) (n q h to) (n' q h to)
          (fw r.control r.symbol to) (fw' r.control r.symbol to) (fn c g q) (fn' c g q) (fn q h to) (fn' q h to) (further.falls r.control r.symbol to) (further.counts c g q) (further.counts q h to) (met to)
      push_later (Some goal) c q met = λ to edge. first_later k r there to c g q (met to edge)

    pub onto_later : (target : Option PatternValue) (k c g q : ℕ) → IsOntoMet s p target k c g q es → IsOntoMet s p target k c g q es'
    onto_later target k c g q met = record {
      steps = λ r there right is. first_later k r there q c g q (met.steps r there right is);
      pushes = λ r there h right is. push_later k r there g h right target c q (met.pushes r there h right is);
    }

    pub over_later : (target : Option PatternValue) (base base' : List (TableEntry W)) → IsTable s base → IsTable s base' → Further base base' → (k c g q : ℕ) → IsOverMet s p target k c g q base es → IsOverMet s p target k c g q base' es'
    over_later target base base' tb tb' fall k c g q met = λ r there f right.
        returned_kept valid laws k r there f g right (w r.control r.symbol q) (w' r.control r.symbol q) (counting s base r.to f c) (counting s base' r.to f c) (n c g q) (n' c g q)
        (fw r.control r.symbol q) (fw' r.control r.symbol q) (counting_fits laws base tb r.to f c) (counting_fits laws base' tb' r.to f c) (fn c g q) (fn' c g q)
        (further.falls r.control r.symbol q) (fall.counts r.to f c) (further.counts c g q) (met r there f right)

  -- a rule that is none of the row asks for nothing
  not_onto : (k c g : ℕ) → ((r : Rule S W Map) → slice_get p.rules k ≡ Some r → goes_onto c g r ≡ false) → (r : Rule S W Map) → slice_get p.rules k ≡ Some r → first_of r.right ≡ Some g → r.to ≡ c → ⊥
  not_onto k c g other r there first to =
      let yes : goes_onto c g r ≡ true = ap₂ (λ a b. a && is_symbol g b) (eq-eqb r.to c to) first ∙ eq-eqb g g refl in
      let both : true ≡ false = sym yes ∙ other r there in
      cc

  pub onto_skips : (target : Option PatternValue) (k c g q : ℕ) (es : List (TableEntry W)) → ((r : Rule S W Map) → slice_get p.rules k ≡ Some r → goes_onto c g r ≡ false) → IsOntoMet s p target k c g q es
  onto_skips target k c g q es other = record {
    steps = λ r there right to. absurd (not_onto k c g other r there (ap first_of right) to);
    pushes = λ r there h right to. absurd (not_onto k c g other r there (ap first_of right) to);
  }

  pub over_skips : (target : Option PatternValue) (k c g q : ℕ) (base es : List (TableEntry W)) → ((r : Rule S W Map) → slice_get p.rules k ≡ Some r → pushes_over g r ≡ false) → IsOverMet s p target k c g q base es
  over_skips target k c g q base es other = λ r there f right.
      let yes : pushes_over g r ≡ true = ap (λ o. is_symbol g (second_of o)) right ∙ eq-eqb g g refl in
      let both : true ≡ false = sym yes ∙ other r there in
      absurd (let no : ⊥ = cc in no)

  -- an input that counts for nothing asks for nothing
  module _ (k : ℕ) (r : Rule S W Map) (there : slice_get p.rules k ≡ Some r) (g h : ℕ) (right : r.right ≡ g ∷ h ∷ []) (v : W) (fits : Fits s v) where
    pub nothing_comes : (x y : W) → Fits s y → x ≡ s.zero → Below s v (returned_worth s r x y)
    nothing_comes x y fy none =
        let P : W → Type 0 = Below s v in
        subst P (sym (ap (λ z. returned_worth s r z y) none ∙ nothing_first valid laws k r there g h right y fy)) (below_zero laws v fits)

    pub nothing_goes_on : (x y : W) → Fits s x → y ≡ s.zero → Below s v (returned_worth s r x y)
    nothing_goes_on x y fx none =
        let P : W → Type 0 = Below s v in
        subst P (sym (ap (returned_worth s r x) none ∙ nothing_second valid laws k r there g h right x fx)) (below_zero laws v fits)

    -- what was met with weights is met with what counts of them
    pub both_count : (x x' y y' : W) → Fits s x → Fits s x' → Fits s y → Fits s y' → (x' ≡ x) ⊎ (x' ≡ s.zero) → (y' ≡ y) ⊎ (y' ≡ s.zero) → Below s v (returned_worth s r x y) → Below s v (returned_worth s r x' y')
    both_count x x' y y' fx fx' fy fy' one two below = returned_kept valid laws k r there g h right v v x x' y y' fits fits fx fx' fy fy' (below_itself laws v fits) one two below

  pub one_counts : (k : ℕ) (r : Rule S W Map) → slice_get p.rules k ≡ Some r → (v x x' : W) → Fits s v → Fits s x → (x' ≡ x) ⊎ (x' ≡ s.zero) → Below s v (first_worth s r x) → Below s v (first_worth s r x')
  one_counts k r there v x x' fits fx one below = first_kept valid laws k r there v v x x' fits fits fx (below_itself laws v fits) one below
