-- What is made from sources, by the layout.
use Rattle.std.proofs.Common.{◌≡◌, ℕ, List, ◌++◌, sym, ap, ◌∙◌, subst}
use Rattle.relation_laws.specs.Building.{Parts}
use Rattle.boolean_programs.specs.Programs.{Program}
use Rattle.boolean_programs.specs.Lists.{Each}
use Rattle.boolean_machine.proofs.CallerLemmas.{get_front}
use Rattle.lowering_laws.specs.Lowering.{Effect, variables, slot_of}
use Rattle.lowering_laws.specs.Plans.{IsEffectOver}
use Rattle.boolean_lowering.specs.declared.layout.Layout.{Layout}
use Rattle.boolean_lowering.specs.declared.source.Source.{Source}
use Rattle.boolean_lowering.specs.private.Layouts.{variables_in, slot_in, IsLayout}
use Rattle.boolean_lowering.specs.private.Effects.{HasEffect}
use Rattle.boolean_lowering.specs.private.Sources.{effect_by, IsWeightOf}
use Rattle.boolean_lowering.proofs.LayoutLemmas.{slots_same, variables_same}

-- what holds of each of a list holds of each of its front
pub each_front : {X : Type 0} (P : X → Type 0) (xs ys : List X) → Each P (xs ++ ys) → Each P xs
each_front P xs ys each = λ k x e. each k x (get_front xs ys k x e)

module _ (p : Program) (l : Layout) (is : IsLayout p l) (s : Source) where
  effect_same : effect_by (slot_in l) s ≡ effect_by (slot_of p) s
  effect_same = ap (λ (f : ℕ → ℕ). effect_by f s) (slots_same p l is)

  over_in : IsEffectOver (variables p) (effect_by (slot_of p) s) → IsEffectOver (variables_in l) (effect_by (slot_in l) s)
  over_in over =
      subst (λ n. IsEffectOver n (effect_by (slot_in l) s)) (sym (variables_same p l is))
      (subst (IsEffectOver (variables p)) (sym effect_same) over)

  -- a source over the program's variables is one over those of the layout
  pub over_at : (t : Source) → s ≡ t → IsEffectOver (variables p) (effect_by (slot_of p) s) → IsEffectOver (variables_in l) (effect_by (slot_in l) t)
  over_at t e over = subst (λ u. IsEffectOver (variables_in l) (effect_by (slot_in l) u)) e (over_in over)

  -- an effect by the layout is that of the source
  pub effect_at : (t : Source) (e : Effect) → s ≡ t → e ≡ effect_by (slot_in l) t → e ≡ effect_by (slot_of p) s
  effect_at t e is_t same = same ∙ ap (effect_by (slot_in l)) (sym is_t) ∙ effect_same

  -- a weight by the layout is one of the program, and the other way round
  pub weight_in : (w : Parts) → HasEffect (variables p) w (effect_by (slot_of p) s) → IsWeightOf l s w
  weight_in w has =
      subst (λ n. HasEffect n w (effect_by (slot_in l) s)) (sym (variables_same p l is))
      (subst (HasEffect (variables p) w) (sym effect_same) has)

  pub weight_of : (w : Parts) → IsWeightOf l s w → HasEffect (variables p) w (effect_by (slot_of p) s)
  weight_of w has =
      subst (HasEffect (variables p) w) effect_same
      (subst (λ n. HasEffect n w (effect_by (slot_in l) s)) (variables_same p l is) has)
