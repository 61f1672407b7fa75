use Rattle.std.proofs.Common.{◌≡◌, ℕ, ◌<◌}
use Rattle.std.specs.Prelude.{Some, slice_get}
use Rattle.weight_tables.specs.Entries.{TableEntry}
use Rattle.value_tails.specs.private.Steps.{AreLinksLowered, IsRowLinked}
use Rattle.value_tails.proofs.links.link_all.Given as goal

abbrev pub invariant-loop-t : goal.invariant-loop-t
invariant-loop-t g l =
    let v = l.initial.tables in
    let s = g.S.Semiring.operations v.system.semiring in
    AreLinksLowered s l.first v l.tables × ((t : ℕ) → t < l.t → (e : TableEntry _) → slice_get v.base t ≡ Some e → IsRowLinked s l.first v l.tables.walk e.place)
