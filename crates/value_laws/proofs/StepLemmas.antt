-- Whatever is done in whatever order, what was settled stays so, and a transition that was taken is settled.
use Rattle.std.proofs.Common.{◌≡◌, ◌⊎◌, inl, inr, ℕ, Bool, true, false, List, [], ◌∷◌, refl, sym, ap, ap₂, ◌∙◌, subst}
use Rattle.std.specs.Prelude.{Some, slice_get, unwrap_or, ◌&&◌, nat_eq, if◌then◌else◌}
use Rattle.std.proofs.lemmas.Bool.{and_parts, eqb-true}
use Rattle.semiring_laws.specs.Semiring.{Operations, IsSemiring, Fits, FitsMap, Below}
use Rattle.semiring_laws.proofs.CallerLemmas.{below_itself, below_trans, below_zero, combine_below_left}
use Rattle.pushdown_rules.specs.declared.rule.Rule.{Rule}
use Rattle.pushdown_rules.specs.Pushdown.{Pushdown, IsSystem}
use Rattle.pushdown_rules.proofs.CallerLemmas.{weight_fits, map_fits}
use Rattle.config_patterns.specs.declared.edge.Edge.{Edge}
use Rattle.wpds_base.specs.Lists.{IsIn}
use Rattle.value_laws.specs.Settled.{Table, AreWeights, first_worth, returned_worth, ArePopsSettled, AreEntersSettled}
use Rattle.value_laws.specs.Steps.{is_place, without, IsFurther, IsLowered, ArePopsMet, AreEntersMet}
use Rattle.value_laws.proofs.RuleLemmas.{fits_first, fits_inside}

-- either the place is this one, or it is another
pub one_place : (c g q x y z : ℕ) → is_place c g q x y z ≡ true → (c ≡ x) × (g ≡ y) × (q ≡ z)
one_place c g q x y z is =
    let parts = and_parts (nat_eq c x) (nat_eq g y && nat_eq q z) is in
    let rest = and_parts (nat_eq g y) (nat_eq q z) parts.1 in
    (eqb-true c x parts.0, eqb-true g y rest.0, eqb-true q z rest.1)

pub decide : (b : Bool) → (b ≡ true) ⊎ (b ≡ false)
decide true = inl refl
decide false = inr refl

module _ {W Map : Type 0} {s : Operations W Map} (laws : IsSemiring s) where
  -- one after the other
  pub further_then : (a b c d e f : Table W) → AreWeights s a → AreWeights s c → AreWeights s e → IsFurther s a b c d → IsFurther s c d e f → IsFurther s a b e f
  further_then a b c d e f fa fc fe one two = record {
    falls = λ x y z. below_trans laws (e x y z) (c x y z) (a x y z) (fe x y z) (fc x y z) (fa x y z) (two.falls x y z) (one.falls x y z);
    counts = λ x y z. elim (two.counts x y z) [
      | inr nothing ↦ inr nothing
      | inl same ↦ elim (one.counts x y z) [ inl before ↦ inl (same ∙ before) | inr nothing ↦ inr (same ∙ nothing) ]
    ];
  }

  module _ (c g q : ℕ) (w : W) (fw : Fits s w) (a b a' b' : Table W) (fa : AreWeights s a) (lowered : IsLowered s c g q w a b a' b') where
    at_place : (P : ℕ → ℕ → ℕ → Type 0) → P c g q → (x y z : ℕ) → is_place c g q x y z ≡ true → P x y z
    at_place P here x y z is =
        let parts = one_place c g q x y z is in
        let Q : ℕ → Type 0 = λ i. P i g q in
        let R : ℕ → Type 0 = λ j. P x j q in
        let T : ℕ → Type 0 = λ k. P x y k in
        subst T parts.2 (subst R parts.1 (subst Q parts.0 here))

    pub lowered_fits : AreWeights s a'
    lowered_fits x y z = elim (decide (is_place c g q x y z)) [
      | inl is ↦ at_place (λ i j k. Fits s (a' i j k)) (subst (Fits s) (sym lowered.here) (laws.fits-combine (a c g q) w (fa c g q) fw)) x y z is
      | inr other ↦ subst (Fits s) (sym (lowered.others x y z other)) (fa x y z)
    ]

    pub lowered_further : IsFurther s a b a' b'
    lowered_further = record {
      falls = λ x y z. elim (decide (is_place c g q x y z)) [
        | inl is ↦
            let P : W → Type 0 = λ v. Below s v (a c g q) in
            at_place (λ i j k. Below s (a' i j k) (a i j k)) (subst P (sym lowered.here) (combine_below_left laws (a c g q) w (fa c g q) fw)) x y z is
        | inr other ↦
            let P : W → Type 0 = λ v. Below s v (a x y z) in
            subst P (sym (lowered.others x y z other)) (below_itself laws (a x y z) (fa x y z))
      ];
      counts = lowered.counts;
    }

    -- what holds of a place's weight and of what comes to it holds of their combine
    pub lowered_holds : (P : ℕ → ℕ → ℕ → W → Type 0) → ((v : W) → P c g q v → P c g q (s.combine v w)) → ((x y z : ℕ) → P x y z (a x y z)) → (x y z : ℕ) → P x y z (a' x y z)
    lowered_holds P joins holds x y z = elim (decide (is_place c g q x y z)) [
      | inl is ↦
          let Q : W → Type 0 = P c g q in
          at_place (λ i j k. P i j k (a' i j k)) (subst Q (sym lowered.here) (joins (a c g q) (holds c g q))) x y z is
      | inr other ↦ let Q : W → Type 0 = P x y z in subst Q (sym (lowered.others x y z other)) (holds x y z)
    ]

module _ {S W Map : Type 0} {operations : S → Operations W Map} {p : Pushdown S W Map} (valid : IsSystem operations p) (laws : IsSemiring (operations p.semiring)) where
  abbrev s : Operations W Map
  s = operations p.semiring

  -- what an input that counts is, when it is as it was or waits again
  abbrev Kept : W → W → Type 0
  Kept x' x = (x' ≡ x) ⊎ (x' ≡ s.zero)

  module _ (k : ℕ) (r : Rule S W Map) (there : slice_get p.rules k ≡ Some r) where
    fr : Fits s r.weight
    fr = weight_fits valid laws k r there

    pub first_kept : (w w' x x' : W) → Fits s w → Fits s w' → Fits s x → Below s w' w → Kept x' x → Below s w (first_worth s r x) → Below s w' (first_worth s r x')
    first_kept w w' x x' fw fw' fx falls (inl same) below =
        let P : W → Type 0 = λ y. Below s w' (first_worth s r y) in
        subst P (sym same) (below_trans laws w' w (first_worth s r x) fw' fw (fits_first valid laws k r there x fx) falls below)
    first_kept w w' x x' fw fw' fx falls (inr nothing) below =
        let P : W → Type 0 = Below s w' in
        subst P (sym (ap (first_worth s r) nothing ∙ laws.extend-zero_right r.weight fr)) (below_zero laws w' fw')

    module _ (g h : ℕ) (right : r.right ≡ g ∷ h ∷ []) where
      fm : FitsMap s (unwrap_or r.map s.plain)
      fm = map_fits valid laws k r there g h right

      pub nothing_first : (y : W) → Fits s y → returned_worth s r s.zero y ≡ s.zero
      nothing_first y fy =
          ap (λ v. s.extend (s.after (unwrap_or r.map s.plain) v) y) (laws.extend-zero_right r.weight fr) ∙ ap (λ v. s.extend v y) (laws.after-zero (unwrap_or r.map s.plain) fm) ∙ laws.extend-zero_left y fy

      pub nothing_second : (x : W) → Fits s x → returned_worth s r x s.zero ≡ s.zero
      nothing_second x fx = laws.extend-zero_right (s.after (unwrap_or r.map s.plain) (first_worth s r x)) (fits_inside valid laws k r there g h right x fx)

      fits_returned : (x y : W) → Fits s x → Fits s y → Fits s (returned_worth s r x y)
      fits_returned x y fx fy = laws.fits-extend (s.after (unwrap_or r.map s.plain) (first_worth s r x)) y (fits_inside valid laws k r there g h right x fx) fy

      pub returned_kept : (w w' x x' y y' : W) → Fits s w → Fits s w' → Fits s x → Fits s x' → Fits s y → Fits s y' → Below s w' w → Kept x' x → Kept y' y
          → Below s w (returned_worth s r x y) → Below s w' (returned_worth s r x' y')
      returned_kept w w' x x' y y' fw fw' fx fx' fy fy' falls (inr nothing) two below =
          let P : W → Type 0 = Below s w' in
          subst P (sym (ap (λ v. returned_worth s r v y') nothing ∙ nothing_first y' fy')) (below_zero laws w' fw')
      returned_kept w w' x x' y y' fw fw' fx fx' fy fy' falls (inl same) (inr nothing) below =
          let P : W → Type 0 = Below s w' in
          subst P (sym (ap (λ v. returned_worth s r x' v) nothing ∙ nothing_second x' fx')) (below_zero laws w' fw')
      returned_kept w w' x x' y y' fw fw' fx fx' fy fy' falls (inl same) (inl same') below =
          let P : W → Type 0 = Below s w' in
          subst P (sym (ap₂ (returned_worth s r) same same')) (below_trans laws w' w (returned_worth s r x y) fw' fw (fits_returned x y fx fy) falls below)

  module _ (a b a' b' : Table W) (fa : AreWeights s a) (fb : AreWeights s b) (fa' : AreWeights s a') (fb' : AreWeights s b') (further : IsFurther s a b a' b') where
    -- between controls, what was settled stays so
    pub pops_kept : ArePopsSettled s p a b → ArePopsSettled s p a' b'
    pops_kept settled = record {
      pops = λ k r there right. below_trans laws (a' r.control r.symbol r.to) (a r.control r.symbol r.to) r.weight (fa' r.control r.symbol r.to) (fa r.control r.symbol r.to) (fr k r there)
          (further.falls r.control r.symbol r.to) (settled.pops k r there right);
      steps = λ k r there g right to. first_kept k r there (a r.control r.symbol to) (a' r.control r.symbol to) (b r.to g to) (b' r.to g to) (fa r.control r.symbol to) (fa' r.control r.symbol to) (fb r.to g to)
          (further.falls r.control r.symbol to) (further.counts r.to g to) (settled.steps k r there g right to);
      calls = λ k r there g h right mid to. returned_kept k r there g h right (a r.control r.symbol to) (a' r.control r.symbol to) (b r.to g mid) (b' r.to g mid) (b mid h to) (b' mid h to)
          (fa r.control r.symbol to) (fa' r.control r.symbol to) (fb r.to g mid) (fb' r.to g mid) (fb mid h to) (fb' mid h to)
          (further.falls r.control r.symbol to) (further.counts r.to g mid) (further.counts mid h to) (settled.calls k r there g h right mid to);
    }

    -- and what a transition gave is still there
    pub pops_met_kept : (c g q : ℕ) (w : W) → Fits s w → ArePopsMet s p c g q w a b → ArePopsMet s p c g q w a' b'
    pops_met_kept c g q w fw met = record {
      steps = λ k r there right to. first_kept k r there (a r.control r.symbol q) (a' r.control r.symbol q) w w (fa r.control r.symbol q) (fa' r.control r.symbol q) fw (further.falls r.control r.symbol q) (inl refl)
          (met.steps k r there right to);
      firsts = λ k r there h right is to. returned_kept k r there g h right (a r.control r.symbol to) (a' r.control r.symbol to) w w (b q h to) (b' q h to) (fa r.control r.symbol to) (fa' r.control r.symbol to) fw fw
          (fb q h to) (fb' q h to) (further.falls r.control r.symbol to) (inl refl) (further.counts q h to) (met.firsts k r there h right is to);
      seconds = λ k r there f right. returned_kept k r there f g right (a r.control r.symbol q) (a' r.control r.symbol q) (b r.to f c) (b' r.to f c) w w (fa r.control r.symbol q) (fa' r.control r.symbol q)
          (fb r.to f c) (fb' r.to f c) fw fw (further.falls r.control r.symbol q) (further.counts r.to f c) (inl refl) (met.seconds k r there f right);
    }

    module _ (control : ℕ) (edges : List Edge) (pops : Table W) (fp : AreWeights s pops) where
      -- to a target, the same
      pub enters_kept : AreEntersSettled s p control edges pops a b → AreEntersSettled s p control edges pops a' b'
      enters_kept settled = record {
        opens = λ g to edge. below_trans laws (a' control g to) (a control g to) s.one (fa' control g to) (fa control g to) laws.fits-one (further.falls control g to) (settled.opens g to edge);
        steps = λ k r there g right to. first_kept k r there (a r.control r.symbol to) (a' r.control r.symbol to) (b r.to g to) (b' r.to g to) (fa r.control r.symbol to) (fa' r.control r.symbol to) (fb r.to g to)
            (further.falls r.control r.symbol to) (further.counts r.to g to) (settled.steps k r there g right to);
        calls = λ k r there g h right mid to. returned_kept k r there g h right (a r.control r.symbol to) (a' r.control r.symbol to) (pops r.to g mid) (pops r.to g mid) (b mid h to) (b' mid h to)
            (fa r.control r.symbol to) (fa' r.control r.symbol to) (fp r.to g mid) (fp r.to g mid) (fb mid h to) (fb' mid h to)
            (further.falls r.control r.symbol to) (inl refl) (further.counts mid h to) (settled.calls k r there g h right mid to);
        stays = λ k r there g h right mid to edge. first_kept k r there (a r.control r.symbol to) (a' r.control r.symbol to) (b r.to g mid) (b' r.to g mid) (fa r.control r.symbol to) (fa' r.control r.symbol to)
            (fb r.to g mid) (further.falls r.control r.symbol to) (further.counts r.to g mid) (settled.stays k r there g h right mid to edge);
      }

      pub enters_met_kept : (c g e : ℕ) (w : W) → Fits s w → AreEntersMet s p edges pops c g e w a → AreEntersMet s p edges pops c g e w a'
      enters_met_kept c g e w fw met = record {
        steps = λ k r there right to. first_kept k r there (a r.control r.symbol e) (a' r.control r.symbol e) w w (fa r.control r.symbol e) (fa' r.control r.symbol e) fw (further.falls r.control r.symbol e) (inl refl)
            (met.steps k r there right to);
        seconds = λ k r there f right. returned_kept k r there f g right (a r.control r.symbol e) (a' r.control r.symbol e) (pops r.to f c) (pops r.to f c) w w (fa r.control r.symbol e) (fa' r.control r.symbol e)
            (fp r.to f c) (fp r.to f c) fw fw (further.falls r.control r.symbol e) (inl refl) (inl refl) (met.seconds k r there f right);
        stays = λ k r there h right to i edge. first_kept k r there (a r.control r.symbol i) (a' r.control r.symbol i) w w (fa r.control r.symbol i) (fa' r.control r.symbol i) fw (further.falls r.control r.symbol i) (inl refl)
            (met.stays k r there h right to i edge);
      }

  -- A transition that was taken: it counts again, or was lowered meanwhile and waits.
  module _ (c g q : ℕ) (w : W) (fw : Fits s w) (a b : Table W) (fa : AreWeights s a) (fb : AreWeights s b) (back : Kept (b c g q) w) where
    abbrev others : Table W
    others = without s.zero c g q b

    same_elsewhere : (x y z : ℕ) → is_place c g q x y z ≡ false → others x y z ≡ b x y z
    same_elsewhere x y z other = ap (λ (t : Bool). if t then s.zero else b x y z) other

    -- what counts at a place that is this one
    here : (x y z : ℕ) → is_place c g q x y z ≡ true → Kept (b x y z) w
    here x y z is =
        let parts = one_place c g q x y z is in
        let Q : ℕ → Type 0 = λ i. Kept (b i g q) w in
        let R : ℕ → Type 0 = λ j. Kept (b x j q) w in
        let T : ℕ → Type 0 = λ k. Kept (b x y k) w in
        subst T parts.2 (subst R parts.1 (subst Q parts.0 back))

    module _ (k : ℕ) (r : Rule S W Map) (there : slice_get p.rules k ≡ Some r) where
      -- a rule with the transition as its first input
      step_done : (h to goal : ℕ) → (is_place c g q r.to h to ≡ true → Below s (a r.control r.symbol goal) (first_worth s r w)) → Below s (a r.control r.symbol goal) (first_worth s r (others r.to h to))
          → Below s (a r.control r.symbol goal) (first_worth s r (b r.to h to))
      step_done h to goal met settled =
          let v = a r.control r.symbol goal in
          let fv = fa r.control r.symbol goal in
          elim (decide (is_place c g q r.to h to)) [
            | inl is ↦ first_kept k r there v v w (b r.to h to) fv fv fw (below_itself laws v fv) (here r.to h to is) (met is)
            | inr other ↦ let P : W → Type 0 = λ x. Below s v (first_worth s r x) in subst P (same_elsewhere r.to h to other) settled
          ]

    pub pops_done : ArePopsSettled s p a others → ArePopsMet s p c g q w a b → ArePopsSettled s p a b
    pops_done settled met = record {
      pops = settled.pops;
      steps = λ k r there h right to. step_done k r there h to to
          (λ is.
          let parts = one_place c g q r.to h to is in
          let P : ℕ → Type 0 = λ z. Below s (a r.control r.symbol z) (first_worth s r w) in
          subst P parts.2 (met.steps k r there (right ∙ ap (λ (i : ℕ). i ∷ []) (sym parts.1)) (sym parts.0)))
          (settled.steps k r there h right to);
      calls = λ k r there i h right mid to.
          let v = a r.control r.symbol to in
          let fv = fa r.control r.symbol to in
          elim (decide (is_place c g q r.to i mid)) [
            | inl is ↦
                let parts = one_place c g q r.to i mid is in
                let P : ℕ → Type 0 = λ z. Below s v (returned_worth s r w (b z h to)) in
                returned_kept k r there i h right v v w (b r.to i mid) (b mid h to) (b mid h to) fv fv fw (fb r.to i mid) (fb mid h to) (fb mid h to) (below_itself laws v fv) (here r.to i mid is) (inl refl)
                (subst P parts.2 (met.firsts k r there h (right ∙ ap (λ (j : ℕ). j ∷ h ∷ []) (sym parts.1)) (sym parts.0) to))
            | inr other ↦ elim (decide (is_place c g q mid h to)) [
              | inl is ↦
                  let parts = one_place c g q mid h to is in
                  let P : ℕ → Type 0 = λ z. Below s (a r.control r.symbol z) (returned_worth s r (b r.to i c) w) in
                  let Q : ℕ → Type 0 = λ z. Below s v (returned_worth s r (b r.to i z) w) in
                  returned_kept k r there i h right v v (b r.to i mid) (b r.to i mid) w (b mid h to) fv fv (fb r.to i mid) (fb r.to i mid) fw (fb mid h to) (below_itself laws v fv) (inl refl) (here mid h to is)
                  (subst Q parts.0 (subst P parts.2 (met.seconds k r there i (right ∙ ap (λ (j : ℕ). i ∷ j ∷ []) (sym parts.1)))))
              | inr other' ↦
                  let P : W → Type 0 = λ x. Below s v (returned_worth s r x (b mid h to)) in
                  let Q : W → Type 0 = λ y. Below s v (returned_worth s r (others r.to i mid) y) in
                  subst P (same_elsewhere r.to i mid other) (subst Q (same_elsewhere mid h to other') (settled.calls k r there i h right mid to))
            ]
          ];
    }

    pub enters_done : (control : ℕ) (edges : List Edge) (pops : Table W) → AreWeights s pops → AreEntersSettled s p control edges pops a others → AreEntersMet s p edges pops c g q w a
        → AreEntersSettled s p control edges pops a b
    enters_done control edges pops fp settled met = record {
      opens = settled.opens;
      steps = λ k r there h right to. step_done k r there h to to
          (λ is.
          let parts = one_place c g q r.to h to is in
          let P : ℕ → Type 0 = λ z. Below s (a r.control r.symbol z) (first_worth s r w) in
          subst P parts.2 (met.steps k r there (right ∙ ap (λ (i : ℕ). i ∷ []) (sym parts.1)) (sym parts.0)))
          (settled.steps k r there h right to);
      calls = λ k r there i h right mid to.
          let v = a r.control r.symbol to in
          let fv = fa r.control r.symbol to in
          elim (decide (is_place c g q mid h to)) [
            | inl is ↦
                let parts = one_place c g q mid h to is in
                let P : ℕ → Type 0 = λ z. Below s (a r.control r.symbol z) (returned_worth s r (pops r.to i c) w) in
                let Q : ℕ → Type 0 = λ z. Below s v (returned_worth s r (pops r.to i z) w) in
                returned_kept k r there i h right v v (pops r.to i mid) (pops r.to i mid) w (b mid h to) fv fv (fp r.to i mid) (fp r.to i mid) fw (fb mid h to) (below_itself laws v fv) (inl refl) (here mid h to is)
                (subst Q parts.0 (subst P parts.2 (met.seconds k r there i (right ∙ ap (λ (j : ℕ). i ∷ j ∷ []) (sym parts.1)))))
            | inr other ↦
                let P : W → Type 0 = λ y. Below s v (returned_worth s r (pops r.to i mid) y) in
                subst P (same_elsewhere mid h to other) (settled.calls k r there i h right mid to)
          ];
      stays = λ k r there i h right mid to edge. step_done k r there i mid to
          (λ is.
          let parts = one_place c g q r.to i mid is in
          let Q : ℕ → Type 0 = λ m. IsIn (record { from = m; symbol = h; to = to }) edges in
          met.stays k r there h (right ∙ ap (λ (j : ℕ). j ∷ h ∷ []) (sym parts.1)) (sym parts.0) to (subst Q (sym parts.2) edge))
          (settled.stays k r there i h right mid to edge);
    }
