-- Settings along a run: one for each moment, and one for each open call.
use Rattle.std.specs.Prelude.{◌≡◌, ℕ, Bool, IsTrue, List, [], ◌∷◌, unwrap_or}
use Rattle.semiring_laws.specs.Semiring.{Operations}
use Rattle.pushdown_rules.specs.declared.rule.Rule.{Rule}
use Rattle.pushdown_rules.specs.RunValue.{Frame, Machine}
use Rattle.setting_runs.specs.Relations.{Setting, IsRestored}
use Rattle.relation_weights.specs.declared.rel_map.Slot.{Slot}

-- the pair is in the relation of the weight
abbrev pub Holds : {W : Type 0} → (W → Setting → Setting → Bool) → W → Setting → Setting → Type 0
Holds relates w x y = IsTrue (relates w x y)

module _ {W Map : Type 0} (relates : W → Setting → Setting → Bool) where
  -- The settings at the open calls, the newest first: each saved value holds of two neighbours, and the accumulator of
  -- the last one and the present one.
  abbrev pub Links : List (Frame W Map) → W → Setting → List (Frame Setting Map) → Setting → Type 0
  Links [] w x [] z = Holds relates w x z
  Links [] w x (g ∷ gs) z = ⊥
  Links (f ∷ fs) w x [] z = ⊥
  Links (f ∷ fs) w x (g ∷ gs) z = Holds relates w g.saved z × (f.map ≡ g.map) × Links fs f.saved x gs g.saved

module _ {W Map : Type 0} (n : ℕ) (relates : W → Setting → Setting → Bool) (slots : Map → ℕ → Slot) where
  -- settings after a return
  abbrev pub GoesBack : W → List (Frame Setting Map) → Setting → List (Frame Setting Map) → Setting → Type 0
  GoesBack w [] z gs' z' = Holds relates w z z' × (gs' ≡ [])
  GoesBack w (g ∷ gs) z gs' z' = (e : Setting) × Holds relates w z e × IsRestored n (slots g.map) g.saved e z' × (gs' ≡ gs)

module _ {S W Map : Type 0} (s : Operations W Map) (n : ℕ) (relates : W → Setting → Setting → Bool) (slots : Map → ℕ → Slot) where
  -- settings before and after a rule that leaves this word
  abbrev pub Goes : Rule S W Map → List ℕ → List (Frame Setting Map) → Setting → List (Frame Setting Map) → Setting → Type 0
  Goes r word gs z gs' z' = elim word [
    | [] ↦ GoesBack n relates slots r.weight gs z gs' z'
    | a ∷ as' ↦ elim as' [
      | [] ↦ Holds relates r.weight z z' × (gs' ≡ gs)
      | b ∷ bs ↦ Holds relates r.weight z z' × (gs' ≡ record { saved = z; map = unwrap_or r.map s.plain } ∷ gs)
    ]
  ]

  -- settings that lead along rules
  abbrev pub Lead : List (Rule S W Map) → List (Frame Setting Map) → Setting → List (Frame Setting Map) → Setting → Type 0
  Lead [] gs z gs' z' = (gs ≡ gs') × (z ≡ z')
  Lead (r ∷ rs) gs z gs' z' = (hs : List (Frame Setting Map)) × (y : Setting) × Goes r r.right gs z hs y × Lead rs hs y gs' z'

  -- A moment is a machine whose values are settings: the present one, and for each open call the one at the call.
  abbrev pub AreMoments : List (Rule S W Map) → Machine Setting Map → List (Machine Setting Map) → Type 0
  AreMoments [] m later = later ≡ []
  AreMoments (r ∷ rs) m [] = ⊥
  AreMoments (r ∷ rs) m (m' ∷ later) = Goes r r.right m.frames m.accumulator m'.frames m'.accumulator × AreMoments rs m' later
