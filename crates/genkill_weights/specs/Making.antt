-- Weights and return maps made of facts.
use Rattle.std.specs.Prelude.{◌≡◌, ◌≢◌, ℕ, ◌*◌, ◌<◌, Bool, not, ◌&&◌, ◌||◌, nat_eq, List}
use Rattle.std.specs.List.{list_any}
use Rattle.genkill_weights.specs.declared.weight.GenKillW.{GenKillW}
use Rattle.genkill_weights.specs.declared.weight.GenKillW.TheVariants.{Zero, Map}
use Rattle.genkill_weights.specs.declared.weight.MaskMap.{MaskMap}
use Rattle.genkill_weights.specs.declared.weight.MaskMap.TheVariants.{Plain, Restore}
use Rattle.genkill_weights.specs.Effects.{generates, kills}
use Rattle.genkill_weights.specs.Masks.{fact, mask_where}

abbrev pub is_listed : List ℕ → ℕ → Bool
is_listed facts f = list_any (λ g. nat_eq g f) facts

-- the facts of a mask of n words are exactly these
abbrev pub HasFacts : ℕ → List ℕ → (ℕ → Bool) → Type 0
HasFacts n mask facts = (f : ℕ) → f < 64 * n → fact mask f ≡ facts f

-- the weight by which first some facts are killed, and then some generated
abbrev pub weight_where : (n : ℕ) → (generated killed : ℕ → Bool) → GenKillW n
weight_where n generated killed =
    Map (mask_where n (λ f. generated f || not (killed f))) (mask_where n generated)

-- A weight of two lists generates the facts of the first, and kills those of the second that are not in the first.
pub record Makes (n : ℕ) (gens killed : List ℕ) (w : GenKillW n) : Type 0 where
  pub leads_on : w ≢ Zero
  pub generates_listed : (f : ℕ) → f < 64 * n → generates n w f ≡ is_listed gens f
  pub kills_listed :
      (f : ℕ) → f < 64 * n → kills n w f ≡ (is_listed killed f && not (is_listed gens f))

-- the return map that restores these facts
abbrev pub map_where : (n : ℕ) → (restored : ℕ → Bool) → MaskMap n
map_where n restored = Restore (mask_where n restored)

-- the listed facts are restored, and no others
abbrev pub Restores : (n : ℕ) → List ℕ → MaskMap n → Type 0
Restores n facts Plain = ⊥
Restores n facts (Restore mask) = HasFacts n mask (is_listed facts)
