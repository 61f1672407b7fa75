-- A system of two ways, on which it is worked out what a text tells.
use Rattle.std.proofs.Common.{◌≡◌, ◌⊎◌, ℕ, zero, suc, pos, Bool, true, false, List, [], ◌∷◌, ◌++◌, refl, sym, ap, ap₂, subst, ◌∙◌, inl, inr}
use Rattle.std.specs.Prelude.{None, Some, IsTrue, slice_get}
use Rattle.std.proofs.lemmas.Option.{same_Some}
use Rattle.semiring_laws.specs.Semiring.{Operations}
use Rattle.copy_weights.specs.declared.form.CopyW.{CopyW}
use Rattle.copy_weights.specs.declared.form.CopyW.TheVariants.{Map as Changes}
use Rattle.copy_weights.specs.declared.form.CopyMap.{CopyMap}
use Rattle.copy_weights.specs.declared.form.Form.TheVariants.{Meet}
use Rattle.copy_weights.specs.CopyConst.{copy_operations}
use Rattle.copy_weights.specs.Forms.{tabulate, form, has, meet_over}
use Rattle.copy_weights.specs.Values.{Known, one_of}
use Rattle.copy_weights.specs.Values.Known.{Undefined, Number, Varies}
use Rattle.pushdown_rules.specs.declared.rule.Rule.{Rule}
use Rattle.pushdown_rules.specs.Configuration.{Configuration}
use Rattle.pushdown_rules.specs.Pushdown.{Pushdown}
use Rattle.pushdown_rules.specs.Answers.{Leads}
use Rattle.pushdown_rules.proofs.CallerLemmas.{fired, none_from_nothing}
use Rattle.value_texts.proofs.CopyLemmas.{one_number}
use Rattle.value_texts.specs.Telling.{IsBelow, left_by, IsMeetOfRuns}

-- one control, one symbol: either rule uses the symbol up
abbrev pops : {W Map : Type 0} → W → Rule ℕ W Map
pops weight = record { control = 0; symbol = 0; to = 0; right = []; weight = weight; map = None }

abbrev two_ways : {W Map : Type 0} → ℕ → W → W → Pushdown ℕ W Map
two_ways semiring v w = record { semiring = semiring; controls = 1; symbols = 1; rules = pops v ∷ pops w ∷ [] }

abbrev start : Configuration
start = record { control = 0; stack = 0 ∷ [] }

abbrev end : Configuration
end = record { control = 0; stack = [] }

-- one symbol, and none
abbrev one_in : List ℕ → Bool
one_in [] = false
one_in (g ∷ []) = true
one_in (g ∷ h ∷ more) = false

abbrev none_in : List ℕ → Bool
none_in [] = true
none_in (g ∷ rest) = false

abbrev has_one : Configuration → Bool
has_one c = one_in c.stack

abbrev has_none : Configuration → Bool
has_none c = none_in c.stack

not_both : (stack : List ℕ) → IsTrue (one_in stack) → IsTrue (none_in stack) → ⊥
not_both [] one none = cc
not_both (g ∷ rest) one none = cc

nothing_below : (g : ℕ) (rest : List ℕ) → IsTrue (one_in (g ∷ rest)) → rest ≡ []
nothing_below g [] one = refl
nothing_below g (h ∷ more) one = cc

module _ {W Map : Type 0} (s : Operations W Map) (semiring : ℕ) (v w : W) where
  abbrev system : Pushdown ℕ W Map
  system = two_ways semiring v w

  rule_pops : (k : ℕ) (r : Rule ℕ W Map) → slice_get system.rules k ≡ Some r → (r.right ≡ []) × ((k ≡ 0) ⊎ (k ≡ 1))
  rule_pops zero r at = (ap (λ (x : Rule ℕ W Map). x.right) (sym (same_Some (pops v) r at)), inl refl)
  rule_pops (suc zero) r at = (ap (λ (x : Rule ℕ W Map). x.right) (sym (same_Some (pops w) r at)), inr refl)
  rule_pops (suc (suc k)) r at = cc

  -- the runs from one symbol to none are the two rules
  only_ways : (run : List ℕ) → Leads s system has_one has_none run → (run ≡ 0 ∷ []) ⊎ (run ≡ 1 ∷ [])
  only_ways [] (c, d, one, none, same) = absurd (not_both c.stack one (ap has_none same ∙ none))
  only_ways (k ∷ ks) (c, d, one, none, (mid, fires, goes)) =
      let f = fired system k c mid fires in
      let pop = rule_pops k f.rule f.there in
      let bare : f.rest ≡ [] = nothing_below f.rule.symbol f.rest (ap has_one (sym f.head) ∙ one) in
      let empty : mid.stack ≡ [] = ap (λ (x : Configuration). x.stack) f.after ∙ ap₂ (λ xs ys. xs ++ ys) pop.0 bare in
      let last : ks ≡ [] = none_from_nothing system ks mid d empty goes in
      elim pop.1 [
        | inl first ↦ inl (ap₂ (λ j js. j ∷ js) first last)
        | inr second ↦ inr (ap₂ (λ j js. j ∷ js) second last)
      ]

  first_way : Leads s system has_one has_none (0 ∷ [])
  first_way = (start, end, refl, refl, (end, refl, refl))

  second_way : Leads s system has_one has_none (1 ∷ [])
  second_way = (start, end, refl, refl, (end, refl, refl))

-- ---- a variable that is 1 by the one way, and 2 by the other, varies

abbrev becomes : ℕ → CopyW
becomes x = Changes (Meet (Some (pos x)) 0 ∷ [])

abbrev copies : Pushdown ℕ CopyW CopyMap
copies = two_ways 1 (becomes 1) (becomes 2)

left_by_first : (old : ℕ → Known) → left_by copies has_one has_none (0 ∷ []) old 0 ≡ Number (pos 1)
unfolding tabulate form has meet_over one_of
left_by_first old = refl

left_by_second : (old : ℕ → Known) → left_by copies has_one has_none (1 ∷ []) old 0 ≡ Number (pos 2)
unfolding tabulate form has meet_over one_of
left_by_second old = refl

below_both : (u : Known) → IsBelow u (Number (pos 1)) → IsBelow u (Number (pos 2)) → IsBelow u Varies
below_both Undefined low low' = cc
below_both (Number x) low low' = let same : pos 1 ≡ pos 2 = sym (one_number x (pos 1) low) ∙ one_number x (pos 2) low' in cc
below_both Varies low low' = refl

varies : (old : ℕ → Known) → IsMeetOfRuns copies has_one has_none old 0 Varies
varies old = record {
  below = λ run lead. refl;
  greatest = λ u low.
      below_both u (subst (IsBelow u) (left_by_first old) (low (0 ∷ []) (first_way (copy_operations 1) 1 (becomes 1) (becomes 2))))
      (subst (IsBelow u) (left_by_second old) (low (1 ∷ []) (second_way (copy_operations 1) 1 (becomes 1) (becomes 2))));
}
