-- What a sum says of its answer.
use Rattle.std.specs.Prelude.{◌≡◌, ◌↔◌, List, None, IfSome}
use Rattle.semiring_laws.specs.Semiring.{Operations}
use Rattle.weighted_automata.specs.declared.transitions.Entry.{Entry}
use Rattle.witness_graph.specs.declared.node.Node.{Node}
use Rattle.witness_graph.specs.Tight.{IsTight}
use Rattle.config_patterns.specs.Membership.{PatternValue, has_member}
use Rattle.pushdown_rules.specs.Pushdown.{Pushdown}
use Rattle.pushdown_rules.specs.Values.{value_of}
use Rattle.saturation_laws.specs.declared.opening.Opening.{Opening}
use Rattle.saturation_laws.specs.Ways.{Way}
use Rattle.saturation_laws.specs.Books.{BookValue}
use Rattle.path_sum.specs.declared.answer.Answer.{Answer}
use Rattle.path_sum.specs.Answers.{AnswersOpening, listed_runs, IsGrownAnswer}
use Rattle.path_sum.specs.Sums.{ways_of}

module _ {S W Map D : Type 0} (operations : S → Operations W Map) (way : Way S W Map D) where
  -- The answer of a sum over these transitions and nodes, between a pattern and the opening.
  pub record IsSumOver (p : Pushdown S W Map) (d : D) (o : Opening) (ts : List (Entry S W Map)) (nodes : List Node)
      (pattern : PatternValue) (a : Answer S W Map) : Type 0 where
    -- the value lies below the value of each run between them, and combines those of the listed runs
    pub answers : AnswersOpening (operations p.semiring) (way.tables d p).side p o (has_member pattern) a.value (listed_runs a.listing)
    -- nothing is listed exactly where the value is zero
    pub unlisted : (a.listing ≡ None) ↔ (a.value ≡ (operations p.semiring).zero)
    pub side : IfSome a.listing (λ l. l.side ≡ (way.tables d p).side)
    -- no part of the listing leaves the value of its set as it was
    pub tight : IfSome a.listing (λ l. IsTight (operations p.semiring) (value_of (operations p.semiring) p) l.side l.nodes)
    -- it is grown from these transitions and nodes
    pub grown : IsGrownAnswer (operations p.semiring) (way.tables d p).side o ts nodes (ways_of pattern) a

  -- The same over a book's.
  abbrev pub IsSumOf : BookValue S W Map D → PatternValue → Answer S W Map → Type 0
  IsSumOf b pattern a = IsSumOver b.system b.direction b.opening b.state.transitions b.state.nodes pattern a
