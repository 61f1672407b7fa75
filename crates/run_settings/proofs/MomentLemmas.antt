-- Settings that lead along rules are moments.
use Rattle.std.proofs.Common.{ℕ, Bool, List, [], ◌∷◌, refl}
use Rattle.semiring_laws.specs.Semiring.{Operations}
use Rattle.pushdown_rules.specs.declared.rule.Rule.{Rule}
use Rattle.pushdown_rules.specs.RunValue.{Frame}
use Rattle.relation_weights.specs.declared.rel_map.Slot.{Slot}
use Rattle.setting_runs.specs.Relations.{Setting}
use Rattle.setting_runs.specs.Settings.{AreMoments}
use Rattle.run_settings.specs.Settings.{calls_after, moments, LeadAlong}

module _ {S W Map : Type 0} (s : Operations W Map) (n : ℕ) (relates : W → Setting → Setting → Bool) (slots : Map → ℕ → Slot) where
  pub are_moments : (rs : List (Rule S W Map)) (gs : List (Frame Setting Map)) (z : Setting) (later : List Setting) → LeadAlong s n relates slots rs gs z later
      → AreMoments s n relates slots rs (record { accumulator = z; frames = gs }) (moments s rs gs z later)
  are_moments [] gs z later lead = refl
  are_moments (r ∷ rs) gs z [] lead = absurd lead
  are_moments (r ∷ rs) gs z (y ∷ later) lead = (lead.0, are_moments rs (calls_after s r r.right gs z) y later lead.1)
