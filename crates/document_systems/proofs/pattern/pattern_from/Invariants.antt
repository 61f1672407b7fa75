use Rattle.std.proofs.Common.{◌≡◌, map, take}
use Rattle.document_systems.specs.Systems.{item_of}
use Rattle.document_systems.proofs.pattern.pattern_from.Given as goal

abbrev pub invariant-loop-item : goal.invariant-loop-item
invariant-loop-item g l =
    let n = l.system.symbols in
    l.pattern ≡ record { control = l.text.control; symbols = n; items = map (item_of n) (take l.item-index l.text.items) }
