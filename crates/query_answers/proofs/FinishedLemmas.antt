-- A search forwards that is done.
use Rattle.std.proofs.Common.{◌≡◌, sym, ap, subst}
use Rattle.std.specs.Prelude.{List, length}
use Rattle.semiring_laws.specs.Semiring.{Operations}
use Rattle.config_patterns.specs.Edges.{edges_of}
use Rattle.config_patterns.specs.Membership.{PatternValue}
use Rattle.forward_value_laws.specs.Model.{IsClosed, IsSound}
use Rattle.forward_value_search.specs.Places.{row_weights}
use Rattle.forward_value_search.specs.Search.{IsFinished}
use Rattle.pushdown_rules.specs.Pushdown.{Pushdown}
use Rattle.value_tails.specs.Tailing.{IsTailed}
use Rattle.walk_pairs.specs.Answering.{IsWalkedOver}
use Rattle.weight_tables.specs.Entries.{TableEntry, weight_in}
use Rattle.weight_tables.specs.Tables.{TablesValue}

-- it stays so where a walk went over it
pub finished_stays : {S W Map : Type 0} (operations : S → Operations W Map) (p : Pushdown S W Map) (first : PatternValue) (old new : TablesValue S W Map) → IsWalkedOver old new
    → IsFinished operations p first old → IsFinished operations p first new
finished_stays {S} {W} {Map} operations p first old new walked is =
    let s = operations p.semiring in
    let same : new.base ≡ old.base = ap (λ (v : TablesValue S W Map). v.base) walked in
    let P : List (TableEntry W) → Type 0 = λ es. IsSound s p first.control (edges_of first.items) (row_weights s.zero (length first.items) p (weight_in s es)) in
    let Q : List (TableEntry W) → Type 0 = λ es. IsClosed s p first.control (edges_of first.items) (row_weights s.zero (length first.items) p (weight_in s es)) in
    record { sound = subst P (sym same) is.sound; closed = subst Q (sym same) is.closed }

-- so do its tails
pub tailed_stays : {S W Map : Type 0} (operations : S → Operations W Map) (first : PatternValue) (old new : TablesValue S W Map) → IsWalkedOver old new
    → IsTailed (operations old.system.semiring) first old → IsTailed (operations new.system.semiring) first new
tailed_stays {S} {W} {Map} operations first old new walked is =
    let P : TablesValue S W Map → Type 0 = λ v. IsTailed (operations v.system.semiring) first v in
    subst P (sym walked) (record { sums = is.sums; ends = is.ends; reads = is.reads; opens = is.opens })
