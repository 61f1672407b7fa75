-- Patterns that read a stack item by item. A state goes on before the items that may be read next; from there an item with a star is skipped, or the item reads a symbol. So a pair takes few steps, however many items have stars.
-- Where two patterns read one stack, both go on so. Items are counted from 0 here, and item k has the state k + 1.
use Rattle.std.specs.Prelude.{◌≡◌, ◌⊎◌, ℕ, suc, ◌≤◌, ◌<◌, IsTrue, List, length, Some, slice_get}
use Rattle.semiring_laws.specs.Semiring.{Operations, Below}
use Rattle.config_patterns.specs.declared.item.Item.{Item}
use Rattle.weighted_automata.specs.declared.place.Place.{Place}
use Rattle.weight_tables.specs.Entries.{weight_in}
use Rattle.weight_tables.specs.Tables.{TablesValue}
use Rattle.walk_pairs.specs.declared.pairs.Stage.{Stage}
use Rattle.walk_pairs.specs.declared.pairs.Stage.TheVariants.{Before, Above}
use Rattle.walk_pairs.specs.Lowerings.{ArePairsLowered}
use Rattle.walk_pairs.specs.Pairs.{pair_place, answer_place}
use Rattle.walk_pairs.specs.Ways.{TakesAt}

module _ (items : List Item) where
  -- the item has a star
  abbrev pub IsSkipped : ℕ → Type 0
  IsSkipped k = (x : Item) × (slice_get items k ≡ Some x) × IsTrue x.star

  -- in a state the pattern may read the item behind it next, or the state's own once more, if that has a star
  abbrev pub StandsBefore : ℕ → ℕ → Type 0
  StandsBefore state k = (k ≡ state) ⊎ ((suc k ≡ state) × IsSkipped k)

  -- From a state the pattern may come to read the item next, since all that it skips have stars.
  pub record ComesBefore (state k : ℕ) : Type 0 where
    pub begins : ℕ
    pub stands : StandsBefore state begins
    pub above : begins ≤ k
    pub skips : (i : ℕ) → begins ≤ i → i < k → IsSkipped i

module _ {W Map : Type 0} (s : Operations W Map) (one : List Item) where
  -- What a state with something below gives of this weight is there: that which stands before the items that may be read next.
  pub record IsStateRead (i c : ℕ) (w : W) (above : ℕ → ℕ → W) : Type 0 where
    pub stands : i ≤ length one → (k : ℕ) → StandsBefore one i k → Below s (above k c) w

  -- and past an item with a star
  abbrev pub IsItemSkipped : ℕ → ℕ → W → (ℕ → ℕ → W) → Type 0
  IsItemSkipped k c w above = IsSkipped one k → Below s (above (suc k) c) w

module _ {W Map : Type 0} (s : Operations W Map) (one other : List Item) where
  -- What a pair of states of this weight gives is there: what stands before the items that they may read next.
  pub record IsPairRead (i a : ℕ) (w : W) (before : ℕ → ℕ → W) : Type 0 where
    pub stands : i ≤ length one → a ≤ length other → (k l : ℕ) → StandsBefore one i k → StandsBefore other a l → Below s (before k l) w

  -- What stands before two items with this weight gives is there.
  pub record IsBeforeRead (k l : ℕ) (w : W) (pair before : ℕ → ℕ → W) (answer : W) : Type 0 where
    pub skips : l ≤ length other → IsSkipped one k → Below s (before (suc k) l) w
    pub skips_other : k ≤ length one → IsSkipped other l → Below s (before k (suc l)) w
    pub reads : (g : ℕ) → TakesAt one (suc k) g → TakesAt other (suc l) g → Below s (pair (suc k) (suc l)) w
    pub ends : k ≡ length one → l ≡ length other → Below s answer w

  -- All that counts has given what it gives.
  pub record AreReadingsSettled (pair counts before counts_before : ℕ → ℕ → W) (answer : W) : Type 0 where
    pub pairs : (i a : ℕ) → IsPairRead i a (counts i a) before
    pub befores : (k l : ℕ) → IsBeforeRead k l (counts_before k l) pair before answer

module _ {W : Type 0} (hand : W) (one : List Item) where
  -- What a state gives the weight in hand, and what an item with a star does.
  pub record IsStateStand (i c : ℕ) (x : Place) (w : W) : Type 0 where
    pub within : i ≤ length one
    pub item : ℕ
    pub stands : StandsBefore one i item
    pub place : x ≡ pair_place Above item c
    pub weight : w ≡ hand

  pub record IsItemSkip (k c : ℕ) (x : Place) (w : W) : Type 0 where
    pub skipped : IsSkipped one k
    pub place : x ≡ pair_place Above (suc k) c
    pub weight : w ≡ hand

module _ {W : Type 0} (hand : W) (one other : List Item) where
  -- What a pair of states gives the weight in hand.
  pub record IsStand (i a : ℕ) (x : Place) (w : W) : Type 0 where
    pub within : i ≤ length one
    pub within_other : a ≤ length other
    pub item : ℕ
    pub item_other : ℕ
    pub stands : StandsBefore one i item
    pub stands_other : StandsBefore other a item_other
    pub place : x ≡ pair_place Before item item_other
    pub weight : w ≡ hand

  -- what stands before two items does: before the next of one, or of the other, at both states, and at the answer
  abbrev pub IsStep : Stage → ℕ → ℕ → Place → W → Type 0
  IsStep stage k l x w = (w ≡ hand) × (
      (IsSkipped one k × (x ≡ pair_place Before (suc k) l))
      ⊎ ((IsSkipped other l × (x ≡ pair_place Before k (suc l)))
      ⊎ (((g : ℕ) × TakesAt one (suc k) g × TakesAt other (suc l) g × (x ≡ pair_place stage (suc k) (suc l)))
      ⊎ ((k ≡ length one) × (l ≡ length other) × (x ≡ answer_place)))))

module _ {S W Map : Type 0} (s : Operations W Map) (v : TablesValue S W Map) (one : List Item) where
  -- A state has given all that it gives of the weight in hand, and nothing else; so has an item that is skipped.
  pub record IsStateGiven (i c : ℕ) (new : TablesValue S W Map) : Type 0 where
    pub lowered : ArePairsLowered s (IsStateStand v.hand one i c) v new
    pub met : IsStateRead s one i c v.hand (λ k n. weight_in s new.walk (pair_place Above k n))

  pub record IsSkipGiven (k c : ℕ) (new : TablesValue S W Map) : Type 0 where
    pub lowered : ArePairsLowered s (IsItemSkip v.hand one k c) v new
    pub met : IsItemSkipped s one k c v.hand (λ m n. weight_in s new.walk (pair_place Above m n))

module _ {S W Map : Type 0} (s : Operations W Map) (v : TablesValue S W Map) (one other : List Item) where
  -- A pair of states has given all that it gives of the weight in hand, and nothing else.
  pub record IsPairGiven (i a : ℕ) (new : TablesValue S W Map) : Type 0 where
    pub lowered : ArePairsLowered s (IsStand v.hand one other i a) v new
    pub met : IsPairRead s one other i a v.hand (λ k l. weight_in s new.walk (pair_place Before k l))

  -- So has what stands before two items.
  pub record IsBeforeGiven (stage : Stage) (k l : ℕ) (new : TablesValue S W Map) : Type 0 where
    pub lowered : ArePairsLowered s (IsStep v.hand one other stage k l) v new
    pub met : IsBeforeRead s one other k l v.hand (λ i a. weight_in s new.walk (pair_place stage i a)) (λ i a. weight_in s new.walk (pair_place Before i a)) (weight_in s new.walk answer_place)
