-- What an answer to a query is, with the saturation that it comes from.
use Rattle.std.specs.Prelude.{◌≡◌, ◌↔◌, ℕ, List, None, Some, IfSome, length, slice_get}
use Rattle.semiring_laws.specs.Semiring.{Operations}
use Rattle.pushdown_rules.specs.Pushdown.{Pushdown}
use Rattle.pushdown_rules.specs.Values.{value_of}
use Rattle.pushdown_rules.specs.Answers.{Answers}
use Rattle.witness_graph.specs.declared.node.Side.{Side}
use Rattle.witness_graph.specs.declared.node.Side.TheVariants.{Pre as Backward, Post as Forward}
use Rattle.witness_graph.specs.Tight.{IsTight}
use Rattle.config_patterns.specs.Membership.{PatternValue, has_member}
use Rattle.pattern_openings.specs.PatternOpenings.{opening_of}
use Rattle.saturation_laws.specs.Books.{BookValue, IsBook, IsClosed}
use Rattle.saturation_laws.specs.Ways.{Way}
use Rattle.prestar_laws.specs.Ways.{pre_way}
use Rattle.prestar.specs.declared.pre.Pre.{Pre}
use Rattle.poststar_laws.specs.Ways.{post_way}
use Rattle.poststar.specs.declared.post.Post.{Post}
use Rattle.query_answers.specs.declared.saturation.Saturation.{Saturation}
use Rattle.query_answers.specs.declared.saturation.Saturation.TheVariants.{Backward as BackwardOf, Forward as ForwardOf}
use Rattle.path_sum.specs.declared.answer.Answer.{Answer}
use Rattle.path_sum.specs.Answers.{listed_runs, IsGrownAnswer, IsValueOf}
use Rattle.path_sum.specs.Sums.{ways_of}
use Rattle.worker_pool.specs.Alone.{IsAlone}
use Rattle.worker_pool.specs.Errands.{IsWorkedBySeats}

-- of the patterns where runs begin and where they end, the one that a saturation starts from
abbrev pub opened_of : Side → PatternValue → PatternValue → PatternValue
opened_of Backward from to = to
opened_of Forward from to = from

-- and the one that is summed over
abbrev pub summed_of : Side → PatternValue → PatternValue → PatternValue
summed_of Backward from to = from
summed_of Forward from to = to

module _ {S W Map : Type 0} (operations : S → Operations W Map) (p : Pushdown S W Map) (from to : PatternValue) where
  abbrev s : Operations W Map
  s = operations p.semiring

  -- What an answer to a query shows: a value, and a listing of runs that make it.
  pub record ShowsAnswer (goes : Side) (a : Answer S W Map) : Type 0 where
    -- the value lies below the value of each run from a member to a member, and combines those of the listed runs
    pub answers : Answers s p (has_member from) (has_member to) a.value (listed_runs a.listing)
    -- nothing is listed exactly where the value is zero
    pub unlisted : (a.listing ≡ None) ↔ (a.value ≡ s.zero)
    pub side : IfSome a.listing (λ l. l.side ≡ goes)
    -- no part of the listing leaves the value of its set as it was
    pub tight : IfSome a.listing (λ l. IsTight s (value_of s p) l.side l.nodes)

module _ {S W Map D : Type 0} (operations : S → Operations W Map) (way : Way S W Map D) (direction_from : PatternValue → D) (p : Pushdown S W Map) where
  -- The book is a finished saturation of the system from a pattern: so many workers have made its steps, in some order. One worker has one order.
  pub record IsSaturatedFrom (workers : ℕ) (pattern : PatternValue) (b : BookValue S W Map D) : Type 0 where
    pub system : b.system ≡ p
    pub direction : b.direction ≡ direction_from pattern
    pub opening : b.opening ≡ opening_of p.controls pattern
    pub book : IsBook operations way b
    pub closed : IsClosed b
    pub seats : IsWorkedBySeats workers b.journal
    pub alone : workers ≡ 1 → IsAlone b.journal

  -- The answer is grown from the transitions and nodes of such a book, whose direction says which pattern it starts from. What is listed is made shorter.
  pub record IsGrownFromBook (side : Side) (workers : ℕ) (from to : PatternValue) (a : Answer S W Map) : Type 0 where
    pub book : BookValue S W Map D
    pub goes : (way.tables book.direction p).side ≡ side
    pub saturated : IsSaturatedFrom workers (opened_of side from to) book
    pub grown : IsGrownAnswer (operations p.semiring) side book.opening book.state.transitions book.state.nodes (ways_of (summed_of side from to)) a

-- ---- by both directions

-- forwards, by how many items the opening pattern has
abbrev pub forward_way : {S W Map : Type 0} → (S → Operations W Map) → Way S W Map Post
forward_way operations = post_way (λ d. d.items) operations

-- The direction of a saturation from a pattern. Backwards it is one for all patterns,
abbrev pub backward_from : PatternValue → Pre
backward_from pattern = record {}

-- and forwards it knows how many items the pattern has.
abbrev pub forward_from : PatternValue → Post
forward_from pattern = record { items = length pattern.items }

-- the system over which a saturation is
abbrev pub saturated_system : {S W Map : Type 0} → Saturation S W Map → Pushdown S W Map
saturated_system (BackwardOf b) = b.system
saturated_system (ForwardOf b) = b.system

-- nothing waits in it, and no hand is out
abbrev pub IsFinished : {S W Map : Type 0} → Saturation S W Map → Type 0
IsFinished (BackwardOf b) = IsClosed b
IsFinished (ForwardOf b) = IsClosed b

module _ {S W Map : Type 0} (operations : S → Operations W Map) (p : Pushdown S W Map) where
  -- It is a finished saturation of the system from a pattern, by the direction of this side and so many workers.
  abbrev pub IsSaturated : Side → ℕ → PatternValue → Saturation S W Map → Type 0
  IsSaturated Backward workers pattern (BackwardOf b) = IsSaturatedFrom operations (pre_way operations) backward_from p workers pattern b
  IsSaturated Forward workers pattern (ForwardOf b) = IsSaturatedFrom operations (forward_way operations) forward_from p workers pattern b
  IsSaturated _ workers pattern _ = ⊥

  -- the answer is grown from a book of the direction of this side
  abbrev pub IsGrownBy : Side → ℕ → PatternValue → PatternValue → Answer S W Map → Type 0
  IsGrownBy Backward workers from to a = IsGrownFromBook operations (pre_way operations) backward_from p Backward workers from to a
  IsGrownBy Forward workers from to a = IsGrownFromBook operations (forward_way operations) forward_from p Forward workers from to a

  -- The answer to a query by a side and so many workers: what it shows, and that it is grown that way.
  pub record IsAnswer (side : Side) (workers : ℕ) (from to : PatternValue) (a : Answer S W Map) : Type 0 where
    pub shows : ShowsAnswer operations p from to side a
    pub grown : IsGrownBy side workers from to a

  -- Each value is that of an answer to the query for runs from one pattern to the pattern at the same place.
  pub record AreValues (side : Side) (workers : ℕ) (from : PatternValue) (tos : List PatternValue) (values : List W) : Type 0 where
    pub count : length values ≡ length tos
    pub each : (k : ℕ) (to : PatternValue) (v : W) → slice_get tos k ≡ Some to → slice_get values k ≡ Some v
        → IsValueOf (IsAnswer side workers from to) v
