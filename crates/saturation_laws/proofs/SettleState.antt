-- The jobs of a hand, one after another.
use Rattle.std.proofs.Common.{◌≡◌, inl, inr, ℕ, ◌<◌, ◌≤◌, true, false, List, [], ◌∷◌, length, refl, sym, ap₂, ◌∙◌, subst, arith}
use Rattle.std.specs.Prelude.{Option, None, Some, IfSome}
use Rattle.std.proofs.lemmas.Bool.{cond_both}
use Rattle.semiring_laws.specs.Semiring.{Operations, IsSemiring, Fits, Below}
use Rattle.weighted_automata.specs.declared.place.Place.{Place}
use Rattle.witness_graph.specs.declared.node.Side.{Side}
use Rattle.witness_graph.specs.Runs.{runs_of, parts_runs, part_runs, rule_runs}
use Rattle.saturation_laws.specs.declared.job.Job.{Job}
use Rattle.saturation_laws.specs.Jobs.{Tables}
use Rattle.wpds_base.specs.Lists.{IsIn}
use Rattle.saturation_laws.specs.States.{CoreState, Change, weight_at, lower_state, apply, change_of, apply_jobs}
use Rattle.saturation_laws.specs.Directions.{AreRuns}
use Rattle.saturation_laws.specs.Invariants.{IsApplied}
use Rattle.semiring_laws.proofs.CallerLemmas.{below_itself, below_trans}
use Rattle.saturation_laws.proofs.ApplyChange.{IsSoundState, IsSoundChange, Grows, weights_fit, change_fits, lower_sound, lower_grows, lower_applies}

part_same : (known known' : ℕ → List (List ℕ)) (n : ℕ) → ((k : ℕ) → k < n → known' k ≡ known k) → (o : Option ℕ) → IfSome o (λ k. k < n) → part_runs known' o ≡ part_runs known o
part_same known known' n same None _ = refl
part_same known known' n same (Some k) within = same k within

earlier_more : (m n : ℕ) → m ≤ n → (o : Option ℕ) → IfSome o (λ k. k < m) → IfSome o (λ k. k < n)
earlier_more m n le None _ = tt
earlier_more m n le (Some k) within = let h : k < m = within in omega arith

module _ {S W Map : Type 0} {s : Operations W Map} (laws : IsSemiring s) (value : List ℕ → W) (fits_value : (run : List ℕ) → Fits s (value run))
    (runs : Place → List ℕ → Type 0) (side : Side) where
  pub grows_itself : (st : CoreState S W Map) → IsSoundState s value runs side st → Grows s side st st
  grows_itself st sound = record {
    more = omega arith;
    runs = λ k _. refl;
    hands = refl;
    queue = λ x h. h;
    entries = λ x. inl refl;
    present = λ x h. h;
    weights = λ x. below_itself laws _ (weights_fit laws value fits_value runs side st sound x);
  }

  pub grows_further : (a b c : CoreState S W Map) → IsSoundState s value runs side a → IsSoundState s value runs side b → IsSoundState s value runs side c
      → Grows s side a b → Grows s side b c → Grows s side a c
  grows_further a b c sa sb sc p q = record {
    more = omega (arith, p.more, q.more);
    runs = λ k within. q.runs k (omega (arith, p.more)) ∙ p.runs k within;
    hands = q.hands ∙ p.hands;
    queue = λ x h. q.queue x (p.queue x h);
    entries = λ x. elim (q.entries x) [
      | inr h ↦ inr h
      | inl e ↦ elim (p.entries x) [ inl f ↦ inl (e ∙ f) | inr h ↦ inr (q.queue x h) ]
    ];
    present = λ x h. q.present x (p.present x h);
    weights = λ x. below_trans laws _ _ _ (weights_fit laws value fits_value runs side c sc x) (weights_fit laws value fits_value runs side b sb x) (weights_fit laws value fits_value runs side a sa x) (q.weights x) (p.weights x);
  }

  -- a change stays sound where the state grows
  pub change_later : (a b : CoreState S W Map) → Grows s side a b → (c : Change W) → IsSoundChange s value runs side a.nodes c → IsSoundChange s value runs side b.nodes c
  change_later a b grows c sound =
      let before = runs_of side a.nodes in
      let later = runs_of side b.nodes in
      let same : parts_runs side (rule_runs c.rule) (part_runs later c.first) (part_runs later c.second) ≡ parts_runs side (rule_runs c.rule) (part_runs before c.first) (part_runs before c.second) =
      ap₂ (parts_runs side (rule_runs c.rule)) (part_same before later (length a.nodes) grows.runs c.first sound.first) (part_same before later (length a.nodes) grows.runs c.second sound.second) in
      let P : List (List ℕ) → Type 0 = AreRuns s value runs c.goal c.weight in
      record {
        first = earlier_more (length a.nodes) (length b.nodes) grows.more c.first sound.first;
        second = earlier_more (length a.nodes) (length b.nodes) grows.more c.second sound.second;
        part = sound.part;
        are_runs = subst P (sym same) sound.are_runs;
      }

-- What a change of a state gives.
pub record Applies {S W Map : Type 0} (s : Operations W Map) (value : List ℕ → W) (runs : Place → List ℕ → Type 0) (side : Side) (st : CoreState S W Map) (c : Change W) (new : CoreState S W Map) : Type 0 where
  pub sound : IsSoundState s value runs side new
  pub grows : Grows s side st new
  pub applied : Below s (weight_at s c.goal new.transitions) c.weight

module _ {S W Map : Type 0} {s : Operations W Map} (laws : IsSemiring s) (value : List ℕ → W) (fits_value : (run : List ℕ) → Fits s (value run))
    (runs : Place → List ℕ → Type 0) (side : Side) where
  pub apply_keeps : (st : CoreState S W Map) → IsSoundState s value runs side st → (c : Change W) → IsSoundChange s value runs side st.nodes c
      → Applies s value runs side st c (apply s c st)
  apply_keeps st sound c change =
      let old = weight_at s c.goal st.transitions in
      let new = s.combine old c.weight in
      let fits_old = weights_fit laws value fits_value runs side st sound c.goal in
      let fits_added = change_fits laws value fits_value runs side st.nodes c change in
      let decides = laws.same_is_equal new old (laws.fits-combine old c.weight fits_old fits_added) fits_old in
      cond_both (s.same new old) st (lower_state s c new st) (Applies s value runs side st c)
      (λ e. record { sound = sound; grows = grows_itself laws value fits_value runs side st sound; applied = decides.0 e })
      (λ e. let changed : new ≡ old → ⊥ = λ h. let f : true ≡ false = sym (decides.1 h) ∙ e in cc in
      record {
        sound = lower_sound laws value fits_value runs side st sound c change changed;
        grows = lower_grows laws value fits_value runs side st sound c change changed;
        applied = lower_applies laws value fits_value runs side st sound c change changed;
      })

-- What the jobs of a hand give.
pub record AppliesAll {S W Map : Type 0} (s : Operations W Map) (value : List ℕ → W) (runs : Place → List ℕ → Type 0) (d : Tables S W Map) (st : CoreState S W Map) (js : List (Job S W Map)) (new : CoreState S W Map) : Type 0 where
  pub sound : IsSoundState s value runs d.side new
  pub grows : Grows s d.side st new
  pub applied : (j : Job S W Map) → IsIn j js → IsApplied s d new.transitions j

module _ {S W Map : Type 0} {s : Operations W Map} (laws : IsSemiring s) (value : List ℕ → W) (fits_value : (run : List ℕ) → Fits s (value run))
    (runs : Place → List ℕ → Type 0) (d : Tables S W Map) where
  pub jobs_keep : (js : List (Job S W Map)) (st : CoreState S W Map) → IsSoundState s value runs d.side st
      → ((j : Job S W Map) → IsIn j js → IsSoundChange s value runs d.side st.nodes (change_of s d j))
      → AppliesAll s value runs d st js (apply_jobs s d js st)
  jobs_keep [] st sound changes = record { sound = sound; grows = grows_itself laws value fits_value runs d.side st sound; applied = λ j h. absurd h }
  jobs_keep (j ∷ js) st sound changes =
      let c = change_of s d j in
      let mid = apply s c st in
      let one = apply_keeps laws value fits_value runs d.side st sound c (changes j (inl refl)) in
      let rest = jobs_keep js mid one.sound (λ i h. change_later laws value fits_value runs d.side st mid one.grows (change_of s d i) (changes i (inr h))) in
      let end = apply_jobs s d js mid in
      record {
        sound = rest.sound;
        grows = grows_further laws value fits_value runs d.side st mid end sound one.sound rest.sound one.grows rest.grows;
        applied = λ i in'. elim in' [
          | inl e ↦ let P : Job S W Map → Type 0 = IsApplied s d end.transitions in
              subst P e (below_trans laws _ _ _ (weights_fit laws value fits_value runs d.side end rest.sound j.goal) (weights_fit laws value fits_value runs d.side mid one.sound j.goal)
              (change_fits laws value fits_value runs d.side st.nodes c (changes j (inl refl))) (rest.grows.weights j.goal) one.applied)
          | inr h ↦ rest.applied i h
        ];
      }
