-- Weights by the facts that they generate and kill.
use Rattle.std.proofs.Common.{◌≡◌, ◌≢◌, ℕ, ◌*◌, ◌<◌, Bool, true, false, not, ◌&&◌, ◌||◌, List, refl, sym, ap, ◌∙◌, inl, inr}
use Rattle.std.specs.Prelude.{Some}
use Rattle.std.proofs.lemmas.Bool.{cases_lt, lt-ltb}
use Rattle.semiring_laws.specs.Semiring.{Fits}
use Rattle.genkill_weights.specs.declared.weight.GenKillW.{GenKillW}
use Rattle.genkill_weights.specs.declared.weight.GenKillW.TheVariants.{Zero, Map}
use Rattle.genkill_weights.specs.Masks.{fact, mask_where}
use Rattle.genkill_weights.specs.GenKill.{genkill_operations}
use Rattle.genkill_weights.specs.FactSets.{IsFactSet, passed, facts_after}
use Rattle.genkill_weights.specs.Effects.{generates, kills, changed}
use Rattle.genkill_weights.specs.Making.{weight_where}
use Rattle.genkill_weights.specs.GenKillLaws.{keep_mask, gens_mask, gens_kept, maps_same}
use Rattle.genkill_weights.specs.private.MaskLaws.{masks_by_facts}
use Rattle.genkill_weights.proofs.FunctionLemmas.{some_same, within_fact}
use Rattle.genkill_weights.proofs.MakingLemmas.{mask_is_where}

-- whether a fact is below the width does not matter where it is in no set beyond it
killed_or_kept : (x k g : Bool) → ((x && k) || g) ≡ (g || (x && not (true && not k)))
killed_or_kept true true true = refl
killed_or_kept true true false = refl
killed_or_kept true false true = refl
killed_or_kept true false false = refl
killed_or_kept false true true = refl
killed_or_kept false true false = refl
killed_or_kept false false true = refl
killed_or_kept false false false = refl

generated_alone : (k g b : Bool) → ((false && k) || g) ≡ (g || (false && b))
generated_alone true true b = refl
generated_alone true false b = refl
generated_alone false true b = refl
generated_alone false false b = refl

passed_is_changed : (n : ℕ) (k g : List ℕ) (x : ℕ → Bool) → IsFactSet n x → (f : ℕ) → passed k g x f ≡ changed (generates n (Map k g)) (kills n (Map k g)) x f
passed_is_changed n k g x none f = elim (cases_lt f (64 * n)) [
  | inl less ↦ killed_or_kept (x f) (fact k f) (fact g f) ∙ ap (λ b. fact g f || (x f && not (b && not (fact k f)))) (sym (lt-ltb f (64 * n) less))
  | inr more ↦
      let out : x f ≡ false = none f more in
      ap (λ b. (b && fact k f) || fact g f) out
      ∙ generated_alone (fact k f) (fact g f) (not (kills n (Map k g) f))
      ∙ ap (λ b. fact g f || (b && not (kills n (Map k g) f))) (sym out)
]

pub changes_facts : (n : ℕ) (w : GenKillW n) → Fits (genkill_operations n) w → w ≢ Zero → (x : ℕ → Bool) → IsFactSet n x
    → facts_after n w x ≡ Some (changed (generates n w) (kills n w) x)
changes_facts n Zero fit some x none = absurd (some refl)
changes_facts n (Map k g) fit some x none = some_same (passed k g x) (changed (generates n (Map k g)) (kills n (Map k g)) x) (passed_is_changed n k g x none)

kept_again : (k g : Bool) → (k || g) ≡ k → k ≡ (g || not (true && not k))
kept_again true true e = refl
kept_again true false e = refl
kept_again false true e = sym e
kept_again false false e = refl

pub is_of_effects : (n : ℕ) (w : GenKillW n) → Fits (genkill_operations n) w → w ≢ Zero → w ≡ weight_where n (generates n w) (kills n w)
is_of_effects n Zero fit some = absurd (some refl)
is_of_effects n (Map k g) fit some =
    let generated = generates n (Map k g) in
    let killed = kills n (Map k g) in
    let kept : ℕ → Bool = λ f. generated f || not (killed f) in
    maps_same n k (mask_where n kept) g (mask_where n generated)
    (mask_is_where n k kept (keep_mask n k g fit) (λ f below.
    kept_again (fact k f) (fact g f) (within_fact n k g (gens_kept n k g fit) f below)
    ∙ ap (λ b. fact g f || not (b && not (fact k f))) (sym (lt-ltb f (64 * n) below))))
    (mask_is_where n g generated (gens_mask n k g fit) (λ f below. refl))

same_not : (a b : Bool) → (true && not a) ≡ (true && not b) → a ≡ b
same_not true true e = refl
same_not true false e = sym e
same_not false true e = sym e
same_not false false e = refl

pub equal_by_effects : (n : ℕ) (v w : GenKillW n) → Fits (genkill_operations n) v → v ≢ Zero → Fits (genkill_operations n) w → w ≢ Zero
    → ((f : ℕ) → f < 64 * n → generates n v f ≡ generates n w f) → ((f : ℕ) → f < 64 * n → kills n v f ≡ kills n w f) → v ≡ w
equal_by_effects n Zero w fit some fit' some' same same' = absurd (some refl)
equal_by_effects n (Map k g) Zero fit some fit' some' same same' = absurd (some' refl)
equal_by_effects n (Map k g) (Map l h) fit some fit' some' same same' =
    maps_same n k l g h
    (masks_by_facts n k l (keep_mask n k g fit) (keep_mask n l h fit') (λ f below.
    let in_width = lt-ltb f (64 * n) below in
    same_not (fact k f) (fact l f) (ap (λ b. b && not (fact k f)) (sym in_width) ∙ same' f below ∙ ap (λ b. b && not (fact l f)) in_width)))
    (masks_by_facts n g h (gens_mask n k g fit) (gens_mask n l h fit') same)
