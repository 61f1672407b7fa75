-- The walk over pairs of a state of the second pattern and the number of a source.
use Rattle.std.specs.Prelude.{◌≡◌, ℕ, zero, suc, ◌≤◌, ◌<◌, Bool, false, if◌then◌else◌, nat_eq, IsTrue, List, [], ◌∷◌, length, Option, None, Some, slice_get}
use Rattle.wpds_base.specs.Lists.{IsIn}
use Rattle.semiring_laws.specs.Semiring.{Operations, Below}
use Rattle.pushdown_rules.specs.declared.rule.Rule.{Rule}
use Rattle.pushdown_rules.specs.Configuration.{Configuration}
use Rattle.pushdown_rules.specs.Pushdown.{Pushdown}
use Rattle.pushdown_rules.specs.Answers.{Leads}
use Rattle.pushdown_rules.specs.Values.{value_of}
use Rattle.config_patterns.specs.Edges.{edges_of}
use Rattle.config_patterns.specs.Membership.{PatternValue, has_member}
use Rattle.weighted_automata.specs.declared.place.Label.{Label}
use Rattle.weighted_automata.specs.declared.place.Label.TheVariants.{Symbol, Empty}
use Rattle.weighted_automata.specs.declared.place.Place.{Place}
use Rattle.weight_tables.specs.Entries.{TableEntry, weight_in, settled_in}
use Rattle.walk_pairs.specs.declared.pairs.Stage.TheVariants.{Down, Before, Above}
use Rattle.walk_pairs.specs.Pairs.{pair_place, answer_place}
use Rattle.walk_pairs.specs.Reading.{ComesBefore, IsStateRead, IsItemSkipped, IsPairRead, IsBeforeRead, AreReadingsSettled}
use Rattle.walk_pairs.specs.Ways.{TakesAt}
use Rattle.value_laws.specs.Runs.{Sums}
use Rattle.forward_value_laws.specs.Model.{Source, item, callee, Walks}
use Rattle.value_tails.specs.Tailing.{tail_in}
use Rattle.forward_value_search.specs.Places.{arrow, number_of, row_weights}

-- the one state where the walk stops, if it stops at one
abbrev pub is_stop : Option ℕ → ℕ → Bool
is_stop None j = false
is_stop (Some n) j = nat_eq n j

module _ {S W Map : Type 0} (s : Operations W Map) (p : Pushdown S W Map) (first wanted : PatternValue) where
  -- the number of a source, where it has one
  abbrev pub number : Source → Option ℕ
  number = number_of (length first.items) p

  -- The run leads to a stack that both patterns read so far that they may come to read these items next.
  pub record Stands (k l : ℕ) (run : List ℕ) : Type 0 where
    pub state : ℕ
    pub state_first : ℕ
    pub comes : ComesBefore wanted.items state k
    pub comes_first : ComesBefore first.items state_first l
    pub walks : Walks first.control first.items wanted.control wanted.items p state (item state_first) run

  -- The run leads from the source to a stack that the second pattern reads so far that it may come to read this item next.
  pub record Hangs (k : ℕ) (from : Source) (run : List ℕ) : Type 0 where
    pub state : ℕ
    pub comes : ComesBefore wanted.items state k
    pub walks : Walks first.control first.items wanted.control wanted.items p state from run

  -- what the weight of a place combines runs of: that of a pair those of each source of its number, and so that of an item above one
  abbrev pub IsMadeAt : ℕ → Label → ℕ → W → Type 0
  IsMadeAt zero (Symbol j) n w = (from : Source) → number from ≡ Some n → Sums s (value_of s p) (Walks first.control first.items wanted.control wanted.items p j from) w
  IsMadeAt (suc zero) (Symbol j) n w = Unit {0}
  IsMadeAt (suc (suc zero)) (Symbol k) l w = Sums s (value_of s p) (Stands k l) w
  IsMadeAt (suc (suc (suc m))) (Symbol k) n w = (from : Source) → number from ≡ Some n → Sums s (value_of s p) (Hangs k from) w
  IsMadeAt m Empty n w = Sums s (value_of s p) (Leads s p (has_member first) (has_member wanted)) w

  abbrev pub IsMade : Place → W → Type 0
  IsMade x w = IsMadeAt x.from x.label x.to w

  module _ (base walk : List (TableEntry W)) where
    -- the weights of the search, as laws speak of them
    abbrev pub found_in : Configuration → Source → W
    found_in = row_weights s.zero (length first.items) p (weight_in s base)

    -- the weight of a pair, and that of one that does not wait
    abbrev pub pair_in : ℕ → ℕ → W
    pair_in j n = weight_in s walk (pair_place Down j n)

    abbrev pub settled_pair : ℕ → ℕ → W
    settled_pair j n = settled_in s walk (pair_place Down j n)

    -- the same of what stands before an item of each pattern
    abbrev pub before_in : ℕ → ℕ → W
    before_in k l = weight_in s walk (pair_place Before k l)

    abbrev pub settled_before : ℕ → ℕ → W
    settled_before k l = settled_in s walk (pair_place Before k l)

    -- of an item above a source
    abbrev pub above_in : ℕ → ℕ → W
    above_in k n = weight_in s walk (pair_place Above k n)

    abbrev pub settled_above : ℕ → ℕ → W
    settled_above k n = settled_in s walk (pair_place Above k n)

    abbrev pub answer_in : W
    answer_in = weight_in s walk answer_place

    -- the weight of the pair of a source, as laws speak of it
    abbrev pub pairs_of : ℕ → Source → W
    pairs_of j from = elim (number from) [ None ↦ s.zero | Some n ↦ pair_in j n ]

    -- the tail of a source, as laws speak of it
    abbrev pub tails_of : List (TableEntry W) → Source → W
    tails_of tails from = elim (number from) [ None ↦ s.zero | Some n ↦ tail_in s tails n ]

    -- What stands before two items has given what it gives.
    abbrev pub IsBeforeMet : ℕ → ℕ → Type 0
    IsBeforeMet k l = IsBeforeRead s wanted.items first.items k l (settled_before k l) pair_in before_in answer_in

    -- So has an item above a source: it is skipped, and it reads what each call left below.
    pub record IsAboveMet (l m : ℕ) : Type 0 where
      pub skips : IsItemSkipped s wanted.items l m (settled_above l m) above_in
      pub opens : (k : ℕ) (r : Rule S W Map) → slice_get p.rules k ≡ Some r → (g h : ℕ) → r.right ≡ g ∷ h ∷ [] → TakesAt wanted.items (suc l) h → number (callee r.to g) ≡ Some m → (n : ℕ)
          → Below s (pair_in (suc l) n) (s.extend (weight_in s base (arrow r.control (Symbol r.symbol) n)) (s.extend r.weight (settled_above l m)))

    -- At some states the walk goes no further: what lies below is told by tails.
    module _ (stops : ℕ → Bool) (tails : List (TableEntry W)) where
      -- what of a pair is read on
      abbrev pub going_pair : ℕ → ℕ → W
      going_pair i m = if stops i then s.zero else settled_pair i m

      -- Each pair that does not wait has given what it gives.
      pub record IsSettled : Type 0 where
        pub tops : (g j : ℕ) → IsIn (record { from = 0; symbol = g; to = j }) (edges_of wanted.items) → (n : ℕ) → Below s (pair_in j n) (weight_in s base (arrow wanted.control (Symbol g) n))
        pub uncovered : (i : ℕ) → i ≤ length first.items → Below s (pair_in 0 i) (weight_in s base (arrow wanted.control Empty i))
        -- above a callee the second pattern reads on alone
        pub states : (i m : ℕ) → length first.items < m → IsStateRead s wanted.items i m (going_pair i m) above_in
        pub aboves : (l m : ℕ) → IsAboveMet l m
        pub readings : AreReadingsSettled s wanted.items first.items pair_in going_pair before_in settled_before answer_in
        pub rests : (j : ℕ) → IsTrue (stops j) → (n : ℕ) → Below s answer_in (s.extend (tail_in s tails n) (settled_pair j n))

      -- All that a pair gives with what counts of it is there.
      pub record IsPairMet (i m : ℕ) : Type 0 where
        pub states : length first.items < m → IsStateRead s wanted.items i m (going_pair i m) above_in
        pub reads : IsPairRead s wanted.items first.items i m (going_pair i m) before_in
        pub rests : IsTrue (stops i) → Below s answer_in (s.extend (tail_in s tails m) (settled_pair i m))
