-- Tables in which what leads from control to control is closed.
use Rattle.std.proofs.Common.{◌≡◌, sym, ◌∙◌, subst}
use Rattle.std.specs.Prelude.{List}
use Rattle.semiring_laws.specs.Semiring.{Operations}
use Rattle.pushdown_rules.specs.Pushdown.{Pushdown}
use Rattle.value_laws.specs.Settled.{ArePops, ArePopsSettled}
use Rattle.value_search.specs.Views.{weights, counting}
use Rattle.weight_tables.specs.Entries.{TableEntry, NoneWaits}
use Rattle.weight_tables.specs.Tables.{TablesValue}
use Rattle.query_answers.specs.private.Closed.{IsClosedOver}

-- they are so still where nothing between controls changed
pub closed_stay : {S W Map : Type 0} (operations : S → Operations W Map) (p : Pushdown S W Map) (old new : TablesValue S W Map) → new.system ≡ old.system → new.base ≡ old.base
    → IsClosedOver operations p old → IsClosedOver operations p new
closed_stay {S} {W} {Map} operations p old new system base is =
    let s = operations p.semiring in
    let P : List (TableEntry W) → Type 0 = λ es. ArePops s p (weights s es) in
    let Q : List (TableEntry W) → Type 0 = λ es. ArePopsSettled s p (weights s es) (counting s es) in
    record {
      system = system ∙ is.system;
      finds = record { sound = subst P (sym base) is.finds.sound; settled = subst Q (sym base) is.finds.settled };
      closed = subst (λ es. NoneWaits es) (sym base) is.closed;
    }
