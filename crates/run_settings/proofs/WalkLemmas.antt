-- The machine along a run, and what is kept of it.
use Rattle.std.proofs.Common.{◌≡◌, ℕ, zero, suc, ◌+◌, List, [], ◌∷◌, ◌++◌, length, take, refl, sym, ap, ◌∙◌, subst, inl, inr, arith}
use Rattle.std.specs.Prelude.{Option, None, Some, slice_get}
use Rattle.std.specs.List.{AllByRecursion, cons_option}
use Rattle.std.proofs.lemmas.Option.{same_Some}
use Rattle.std.proofs.lemmas.List.{length_push}
use Rattle.std.proofs.Math.Seq.{take-length}
use Rattle.semiring_laws.specs.Semiring.{Operations, IsSemiring}
use Rattle.pushdown_rules.specs.declared.rule.Rule.{Rule}
use Rattle.pushdown_rules.specs.Pushdown.{Pushdown, IsSystem, FitsRule}
use Rattle.pushdown_rules.specs.RunValue.{Machine, FitsMachine, starting, machine_after, run_machine, end_value, value_from}
use Rattle.pushdown_rules.specs.Values.{rules_of}
use Rattle.pushdown_rules.specs.InSystem.{value_in}
use Rattle.pushdown_rules.proofs.CallerLemmas.{step_fits, rules_fit}
use Rattle.relation_laws.specs.Building.{Parts}
use Rattle.relation_weights.specs.declared.rel_map.RelMap.{RelMap}
use Rattle.relation_weights.specs.Relations.{relation_operations}
use Rattle.relation_weights.specs.RelationLaws.{relation_laws}
use Rattle.run_settings.specs.declared.machine.Past.{Past}
use Rattle.run_settings.specs.private.Walks.{machine_at, IsPast, ArePast}
use Rattle.run_settings.proofs.ListLemmas.{push_last, push_old, push_cases}

module _ {S W Map : Type 0} (s : Operations W Map) where
  pub value_is : (m : Machine W Map) (rs : List (Rule S W Map)) → value_from s m rs ≡ end_value s (run_machine s m rs)
  value_is m [] = refl
  value_is m (r ∷ rs) = value_is (machine_after s r m) rs

  pub run_fits : IsSemiring s → (rs : List (Rule S W Map)) (m : Machine W Map) → AllByRecursion (FitsRule s) rs → FitsMachine s m → FitsMachine s (run_machine s m rs)
  run_fits laws [] m rules fit = fit
  run_fits laws (r ∷ rs) m rules fit = run_fits laws rs (machine_after s r m) rules.1 (step_fits laws r r.right m rules.0 fit)

  module _ (p : Pushdown S W Map) (r : Rule S W Map) where
    by_first : (o : Option (Rule S W Map)) (longer shorter : List (Rule S W Map)) (m : Machine W Map) → ((m : Machine W Map) → run_machine s m longer ≡ machine_after s r (run_machine s m shorter))
        → run_machine s m (cons_option o longer) ≡ machine_after s r (run_machine s m (cons_option o shorter))
    by_first None longer shorter m h = h m
    by_first (Some q) longer shorter m h = h (machine_after s q m)

    -- one rule more, from any machine
    more : (run : List ℕ) (k j : ℕ) → slice_get run k ≡ Some j → slice_get p.rules j ≡ Some r → (m : Machine W Map)
        → run_machine s m (rules_of s p (take (suc k) run)) ≡ machine_after s r (run_machine s m (rules_of s p (take k run)))
    more [] k j at there m = cc
    more (x ∷ run) zero j at there m =
        let here : slice_get p.rules x ≡ Some r = ap (slice_get p.rules) (same_Some x j at) ∙ there in
        ap (λ o. run_machine s m (cons_option o [])) here
    more (x ∷ run) (suc k) j at there m = by_first (slice_get p.rules x) (rules_of s p (take (suc k) run)) (rules_of s p (take k run)) m (more run k j at there)

module _ (p : Pushdown ℕ Parts RelMap) (run : List ℕ) where
  pub machine_next : (k j : ℕ) (r : Rule ℕ Parts RelMap) → slice_get run k ≡ Some j → slice_get p.rules j ≡ Some r
      → machine_at p run (k + 1) ≡ machine_after (relation_operations p.semiring) r (machine_at p run k)
  machine_next k j r at there =
      let next : k + 1 ≡ suc k = omega arith in
      ap (machine_at p run) next ∙ more (relation_operations p.semiring) p r run k j at there (starting (relation_operations p.semiring))

  pub machine_fits : IsSystem relation_operations p → (k : ℕ) → FitsMachine (relation_operations p.semiring) (machine_at p run k)
  machine_fits valid k =
      run_fits (relation_operations p.semiring) (relation_laws p.semiring) (rules_of (relation_operations p.semiring) p (take k run)) (starting (relation_operations p.semiring))
      (rules_fit valid (take k run)) (record { accumulator = (relation_laws p.semiring).fits-one; frames = tt })

  pub past_push : (k : ℕ) (past : List Past) (x : Past) → ArePast p run k past → IsPast (machine_at p run k) x → ArePast p run (k + 1) (past ++ x ∷ [])
  past_push k past x are is = record {
    count = length_push past x ∙ ap (λ i. i + 1) are.count;
    each = λ j y at. elim (push_cases past x j y at) [
      | inl old ↦ are.each j y old
      | inr new ↦
          let here : k ≡ j = sym are.count ∙ sym new.1 in
          subst (λ i. IsPast (machine_at p run i) y) here (subst (λ (z : Past). IsPast (machine_at p run k) z) new.0 is)
    ];
  }

  pub past_front : (k : ℕ) (past front : List Past) (x : Past) → past ≡ front ++ x ∷ [] → ArePast p run k past → ArePast p run (length front) front
  past_front k past front x e are = record {
    count = refl;
    each = λ j y at. are.each j y (ap (λ l. slice_get l j) e ∙ push_old front x j y at);
  }

  pub past_last : (k : ℕ) (past front : List Past) (x : Past) → past ≡ front ++ x ∷ [] → ArePast p run k past → IsPast (machine_at p run (length front)) x
  past_last k past front x e are = are.each (length front) x (ap (λ l. slice_get l (length front)) e ∙ push_last front x)

-- the value of the run
value_at_end : (p : Pushdown ℕ Parts RelMap) (run : List ℕ) → end_value (relation_operations p.semiring) (machine_at p run (length run)) ≡ value_in relation_operations p run
value_at_end p run =
    ap (λ l. end_value (relation_operations p.semiring) (run_machine (relation_operations p.semiring) (starting (relation_operations p.semiring)) (rules_of (relation_operations p.semiring) p l))) (take-length run)
    ∙ sym (value_is (relation_operations p.semiring) (starting (relation_operations p.semiring)) (rules_of (relation_operations p.semiring) p run))

pub value_made : (p : Pushdown ℕ Parts RelMap) (run : List ℕ) (n : ℕ) → p.semiring ≡ n → (m : Machine Parts RelMap) → m ≡ machine_at p run (length run) → end_value (relation_operations n) m ≡ value_in relation_operations p run
value_made p run n same m is =
    ap (λ k. end_value (relation_operations k) m) (sym same) ∙ ap (end_value (relation_operations p.semiring)) is ∙ value_at_end p run
