-- Between controls, settled weights lie below the runs of their places.
use Rattle.std.proofs.Common.{◌≡◌, inl, inr, ℕ, zero, suc, ◌+◌, ◌≤◌, List, [], ◌∷◌, ◌++◌, length, refl, sym, ap, ◌∙◌, subst, arith}
use Rattle.std.specs.Prelude.{Some, slice_get}
use Rattle.std.proofs.lemmas.List.{length-append}
use Rattle.semiring_laws.specs.Semiring.{Operations, IsSemiring, Fits, Below}
use Rattle.pushdown_rules.specs.declared.rule.Rule.{Rule}
use Rattle.pushdown_rules.specs.Configuration.{Configuration, at_stack}
use Rattle.pushdown_rules.specs.Pushdown.{Pushdown, IsSystem}
use Rattle.pushdown_rules.specs.Firing.{Run}
use Rattle.pushdown_rules.specs.Splits.{Falls}
use Rattle.pushdown_rules.specs.Values.{value_of}
use Rattle.pushdown_rules.proofs.CallerLemmas.{none_from_nothing, split}
use Rattle.value_laws.specs.Runs.{Pops}
use Rattle.value_laws.specs.Settled.{Table, AreWeights, ArePopsSettled}
use Rattle.value_laws.proofs.RuleLemmas.{begins, few, pop_value, step_below, call_below}

no_symbol_left : (word : List ℕ) (h : ℕ) → [] ≡ word ++ h ∷ [] → ⊥
no_symbol_left [] h e = cc
no_symbol_left (g ∷ word) h e = cc

module _ {S W Map : Type 0} {operations : S → Operations W Map} {p : Pushdown S W Map} (valid : IsSystem operations p) (laws : IsSemiring (operations p.semiring))
    (weight : Table W) (fits : AreWeights (operations p.semiring) weight) (settled : ArePopsSettled (operations p.semiring) p weight weight) where
  abbrev s : Operations W Map
  s = operations p.semiring

  abbrev value : List ℕ → W
  value = value_of s p

  -- what is known of shorter runs
  abbrev BelowUpTo : ℕ → Type 0
  BelowUpTo n = (run : List ℕ) → length run ≤ n → (from g to : ℕ) → Pops p from g to run → Below s (weight from g to) (value run)

  module _ (n : ℕ) (known : BelowUpTo n) (k : ℕ) (r : Rule S W Map) (there : slice_get p.rules k ≡ Some r) (run : List ℕ) (short : length run ≤ n) (to : ℕ) where
    abbrev goal : W
    goal = weight r.control r.symbol to

    fg : Fits s goal
    fg = fits r.control r.symbol to

    behind_call : (g h : ℕ) → r.right ≡ g ∷ h ∷ [] → Falls p r.to (g ∷ []) (h ∷ []) run (at_stack to []) → Below s goal (value (k ∷ run))
    behind_call g h right falls =
        let a = falls.first in
        let b = falls.rest in
        let mid = falls.control in
        let long : length run ≡ length a + length b = ap length falls.joins ∙ length-append a b in
        call_below valid laws k r there g h right run a b mid falls.joins falls.goes goal (weight r.to g mid) (weight mid h to) fg (fits r.to g mid) (fits mid h to)
        (settled.calls k r there g h right mid to) (known a (omega (arith, long, short)) r.to g mid falls.goes) (known b (omega (arith, long, short)) mid h to falls.goes_on)

    by_right : (word : List ℕ) → r.right ≡ word → Run p (at_stack r.to word) run (at_stack to []) → Below s goal (value (k ∷ run))
    by_right [] right goes =
        let over : run ≡ [] = none_from_nothing p run (at_stack r.to []) (at_stack to []) refl goes in
        let P : List ℕ → Type 0 = λ v. Run p (at_stack r.to []) v (at_stack to []) in
        let same : at_stack r.to [] ≡ at_stack to [] = subst P over goes in
        let end : r.to ≡ to = ap (λ (c : Configuration). c.control) same in
        let R : ℕ → Type 0 = λ m. Below s (weight r.control r.symbol m) r.weight in
        let T : W → Type 0 = Below s goal in
        subst T (sym (ap (λ v. value (k ∷ v)) over ∙ pop_value valid laws k r there right)) (subst R end (settled.pops k r there right))
    by_right (g ∷ []) right goes =
        step_below valid laws k r there g right run goal (weight r.to g to) fg (fits r.to g to) (settled.steps k r there g right to) (known run short r.to g to goes)
    by_right (g ∷ h ∷ []) right goes = elim (split p run r.to (g ∷ []) (h ∷ []) (at_stack to []) goes) [
      | inl falls ↦ behind_call g h right falls
      | inr stays ↦ absurd (no_symbol_left stays.word h stays.ends)
    ]
    by_right (g ∷ h ∷ i ∷ word) right goes =
        let most : length r.right ≤ 2 = few valid laws k r there in
        let long : length r.right ≡ suc (suc (suc (length word))) = ap length right in
        absurd (omega arith)

  below_up_to : (n : ℕ) → BelowUpTo n
  below_up_to n [] short from g to goes = absurd (let stacks : g ∷ [] ≡ [] = ap (λ (c : Configuration). c.stack) goes in cc)
  below_up_to zero (k ∷ run) short from g to goes = absurd (let h : suc (length run) ≤ 0 = short in omega arith)
  below_up_to (suc n) (k ∷ run) short from g to goes =
      let b = begins p from g k run (at_stack to []) goes in
      let r = b.rule in
      let less : suc (length run) ≤ suc n = short in
      let end : Below s (weight r.control r.symbol to) (value (k ∷ run)) = by_right n (below_up_to n) k r b.there run (omega (arith, less)) to r.right refl b.goes in
      let P : ℕ → Type 0 = λ c. Below s (weight c r.symbol to) (value (k ∷ run)) in
      let Q : ℕ → Type 0 = λ h. Below s (weight from h to) (value (k ∷ run)) in
      subst Q b.symbol (subst P b.control end)

  pub pop_below : (run : List ℕ) (from g to : ℕ) → Pops p from g to run → Below s (weight from g to) (value run)
  pop_below run from g to goes = below_up_to (length run) run (omega arith) from g to goes
