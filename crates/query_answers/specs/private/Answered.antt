-- Values that answer queries.
use Rattle.std.specs.Prelude.{List, [], ◌∷◌}
use Rattle.semiring_laws.specs.Semiring.{Operations}
use Rattle.pushdown_rules.specs.Pushdown.{Pushdown}
use Rattle.config_patterns.specs.Membership.{PatternValue}
use Rattle.walk_pairs.specs.Answering.{IsAnswered}

-- Each value answers the query for runs from one pattern to the pattern at the same place.
abbrev pub AreAnswered : {S W Map : Type 0} → (S → Operations W Map) → Pushdown S W Map → PatternValue → List PatternValue → List W → Type 0
AreAnswered operations p from [] [] = Unit {0}
AreAnswered operations p from (to ∷ tos) (v ∷ vs) = IsAnswered (operations p.semiring) p from to v × AreAnswered operations p from tos vs
AreAnswered operations p from _ _ = ⊥
