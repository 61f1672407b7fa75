-- What a walk finds, and what it leaves as it is.
use Rattle.std.specs.Prelude.{◌≡◌, ℕ, List}
use Rattle.semiring_laws.specs.Semiring.{Operations}
use Rattle.pushdown_rules.specs.Pushdown.{Pushdown}
use Rattle.pushdown_rules.specs.Answers.{Answers}
use Rattle.config_patterns.specs.Membership.{PatternValue, has_member}
use Rattle.weight_tables.specs.Tables.{TablesValue, with_entries, with_hand}
use Rattle.weight_tables.specs.declared.layer.Layer.TheVariants.{Walk}

-- the weight answers the query for runs from one pattern to the other: some list of runs shows it
abbrev pub IsAnswered : {S W Map : Type 0} → Operations W Map → Pushdown S W Map → PatternValue → PatternValue → W → Type 0
IsAnswered s p from to w = (runs : List (List ℕ)) × Answers s p (has_member from) (has_member to) w runs

-- nothing but the pairs of the walk and the hand is other than it was
abbrev pub IsWalkedOver : {S W Map : Type 0} → TablesValue S W Map → TablesValue S W Map → Type 0
IsWalkedOver old new = new ≡ with_hand new.hand (with_entries Walk new.walk old)
