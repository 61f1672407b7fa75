-- What the operations on weights generate and kill.
use Rattle.std.proofs.Common.{◌≡◌, ◌≢◌, ℕ, ◌*◌, ◌<◌, ◌≤◌, Bool, true, false, not, ◌&&◌, ◌||◌, List, refl, sym, ap, ap₂, ◌∙◌, inl, inr, arith}
use Rattle.std.specs.Prelude.{IsTrue, nat_lt, cond}
use Rattle.std.proofs.lemmas.Bool.{cases_lt, lt-ltb, false_from_ne_true, ltb-true}
use Rattle.std.proofs.lemmas.Option.{same_Some}
use Rattle.semiring_laws.specs.Semiring.{Fits, FitsMap}
use Rattle.genkill_weights.specs.declared.weight.GenKillW.{GenKillW}
use Rattle.genkill_weights.specs.declared.weight.GenKillW.TheVariants.{Zero, Map}
use Rattle.genkill_weights.specs.declared.weight.MaskMap.{MaskMap}
use Rattle.genkill_weights.specs.declared.weight.MaskMap.TheVariants.{Plain, Restore}
use Rattle.genkill_weights.specs.Masks.{fact}
use Rattle.genkill_weights.specs.GenKill.{genkill_operations, or_mask, weight_fits, all_facts, no_facts}
use Rattle.genkill_weights.specs.FactSets.{passed}
use Rattle.genkill_weights.specs.Effects.{generates, kills}
use Rattle.genkill_weights.specs.GenKillLaws.{gens_kept, genkill_laws}
use Rattle.genkill_weights.proofs.FunctionLemmas.{combine_unites, extend_composes, fact_of_all, fact_of_none, restore_is_of_caller, within_fact}

abbrev nothing : ℕ → Bool
nothing f = false

abbrev everything : ℕ → Bool
everything f = true

-- what is killed is what does not hold where everything held before
killed_of_all : (n : ℕ) (k g : List ℕ) → IsTrue (weight_fits n (Map k g)) → (f : ℕ) → f < 64 * n → kills n (Map k g) f ≡ not (passed k g everything f)
killed_of_all n k g fit f below =
    ap (λ b. b && not (fact k f)) (lt-ltb f (64 * n) below) ∙ ap not (sym (within_fact n k g (gens_kept n k g fit) f below))

none_killed : (n : ℕ) (k g : List ℕ) (f : ℕ) → 64 * n ≤ f → kills n (Map k g) f ≡ false
none_killed n k g f past =
    ap (λ b. b && not (fact k f)) (false_from_ne_true (nat_lt f (64 * n)) (λ e. let less = ltb-true f (64 * n) e in absurd (omega (arith, less, past))))

-- ---- combine

or_nothing : (b : Bool) → b ≡ (b || false)
or_nothing true = refl
or_nothing false = refl

pub generates_combine : (n : ℕ) (a b : GenKillW n) → Fits (genkill_operations n) a → Fits (genkill_operations n) b → (f : ℕ)
    → generates n ((genkill_operations n).combine a b) f ≡ (generates n a f || generates n b f)
generates_combine n Zero b fa fb f = refl
generates_combine n (Map k g) Zero fa fb f = or_nothing (fact g f)
generates_combine n (Map k g) (Map l h) fa fb f = ap (λ x. x f) (same_Some _ _ (combine_unites n (Map k g) (Map l h) fa fb nothing))

not_either : (a b : Bool) → not (a || b) ≡ (not a && not b)
not_either true b = refl
not_either false b = refl

pub kills_combine : (n : ℕ) (a b : GenKillW n) → Fits (genkill_operations n) a → Fits (genkill_operations n) b → a ≢ Zero → b ≢ Zero → (f : ℕ)
    → kills n ((genkill_operations n).combine a b) f ≡ (kills n a f && kills n b f)
kills_combine n Zero b fa fb some other f = absurd (some refl)
kills_combine n (Map k g) Zero fa fb some other f = absurd (other refl)
kills_combine n (Map k g) (Map l h) fa fb some other f = elim (cases_lt f (64 * n)) [
  | inl less ↦
      killed_of_all n _ _ ((genkill_laws n).fits-combine (Map k g) (Map l h) fa fb) f less
      ∙ ap (λ x. not (x f)) (same_Some _ _ (combine_unites n (Map k g) (Map l h) fa fb everything))
      ∙ not_either (passed k g everything f) (passed l h everything f)
      ∙ sym (ap₂ (λ a b. a && b) (killed_of_all n k g fa f less) (killed_of_all n l h fb f less))
  | inr past ↦ none_killed n (or_mask n k l) (or_mask n g h) f past ∙ sym (ap (λ b. b && kills n (Map l h) f) (none_killed n k g f past))
]

-- ---- facts that stay as they are

-- the weight neither generates the fact nor kills it
pub record Leaves (n f : ℕ) (w : GenKillW n) : Type 0 where
  pub generates_not : generates n w f ≡ false
  pub kills_not : kills n w f ≡ false

not_true : (b : Bool) → not b ≡ false → b ≡ true
not_true true e = refl
not_true false e = sym e

-- such a fact holds after a run where it held before
left_as_is : (n : ℕ) (k g : List ℕ) → IsTrue (weight_fits n (Map k g)) → (f : ℕ) → f < 64 * n → Leaves n f (Map k g)
    → (fact k f ≡ true) × (fact g f ≡ false)
left_as_is n k g fit f below leaves =
    (not_true (fact k f) (sym (ap (λ b. b && not (fact k f)) (lt-ltb f (64 * n) below)) ∙ leaves.kills_not), leaves.generates_not)

leaves_by : (n : ℕ) (k g : List ℕ) → IsTrue (weight_fits n (Map k g)) → (f : ℕ) → f < 64 * n → passed k g nothing f ≡ false → passed k g everything f ≡ true → Leaves n f (Map k g)
leaves_by n k g fit f below none all = record { generates_not = none; kills_not = killed_of_all n k g fit f below ∙ ap not all }

pub leaves_zero : (n f : ℕ) → Leaves n f Zero
leaves_zero n f = record { generates_not = refl; kills_not = refl }

chosen_none : (r g : Bool) → g ≡ false → cond r false g ≡ false
chosen_none true g e = refl
chosen_none false g e = e

chosen_all : (r k g : Bool) → k ≡ true → cond r true ((true && k) || g) ≡ true
chosen_all true k g e = refl
chosen_all false k g e = ap (λ b. b || g) e

module _ (n f : ℕ) (below : f < 64 * n) where
  pub leaves_one : Leaves n f (genkill_operations n).one
  leaves_one =
      leaves_by n (all_facts n) (no_facts n) (genkill_laws n).fits-one f below (fact_of_none n f) (ap₂ (λ a b. a || b) (fact_of_all n f below) (fact_of_none n f))

  pub leaves_combine : (a b : GenKillW n) → Fits (genkill_operations n) a → Fits (genkill_operations n) b → Leaves n f a → Leaves n f b
      → Leaves n f ((genkill_operations n).combine a b)
  leaves_combine Zero b fa fb la lb = lb
  leaves_combine (Map k g) Zero fa fb la lb = la
  leaves_combine (Map k g) (Map l h) fa fb la lb = record {
    generates_not = generates_combine n (Map k g) (Map l h) fa fb f ∙ ap₂ (λ a b. a || b) la.generates_not lb.generates_not;
    kills_not = kills_combine n (Map k g) (Map l h) fa fb (λ e. cc) (λ e. cc) f ∙ ap (λ b. b && kills n (Map l h) f) la.kills_not;
  }

  pub leaves_extend : (a b : GenKillW n) → Fits (genkill_operations n) a → Fits (genkill_operations n) b → Leaves n f a → Leaves n f b
      → Leaves n f ((genkill_operations n).extend a b)
  leaves_extend Zero b fa fb la lb = leaves_zero n f
  leaves_extend (Map k g) Zero fa fb la lb = leaves_zero n f
  leaves_extend (Map k g) (Map l h) fa fb la lb =
      let first = left_as_is n k g fa f below la in
      let second = left_as_is n l h fb f below lb in
      let after : (x : ℕ → Bool) → _ = λ x. ap (λ y. y f) (same_Some _ _ (extend_composes n (Map k g) (Map l h) fa fb x)) in
      leaves_by n _ _ ((genkill_laws n).fits-extend (Map k g) (Map l h) fa fb) f below
      (after nothing ∙ ap₂ (λ a b. (a && fact l f) || b) first.1 second.1)
      (after everything ∙ ap₂ (λ a b. ((a || fact g f) && b) || fact h f) first.0 second.0)

  pub leaves_after : (h : MaskMap n) (a : GenKillW n) → FitsMap (genkill_operations n) h → Fits (genkill_operations n) a → Leaves n f a
      → Leaves n f ((genkill_operations n).after h a)
  leaves_after Plain a fm fa la = la
  leaves_after (Restore facts) Zero fm fa la = leaves_zero n f
  leaves_after (Restore facts) (Map k g) fm fa la =
      let was = left_as_is n k g fa f below la in
      let after : (x : ℕ → Bool) → _ = λ x. ap (λ y. y f) (same_Some _ _ (restore_is_of_caller n facts (Map k g) fm fa x)) in
      leaves_by n _ _ ((genkill_laws n).fits-after (Restore facts) (Map k g) fm fa) f below
      (after nothing ∙ chosen_none (fact facts f) (fact g f) was.1)
      (after everything ∙ chosen_all (fact facts f) (fact k f) (fact g f) was.0)
