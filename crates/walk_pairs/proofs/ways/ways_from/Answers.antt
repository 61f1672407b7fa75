use Rattle.std.proofs.Common.{◌≡◌, ◌+◌, Bool, sym, ap, ◌∙◌, arith}
use Rattle.std.specs.Prelude.{if◌then◌else◌}
use Rattle.walk_pairs.proofs.WayLemmas.{ways_are, no_ways}
use Rattle.walk_pairs.proofs.ways.ways_from.Goals.{then-stays_at, else-stays_at}
use Rattle.walk_pairs.proofs.ways.ways_from.Goals as goal

pub returns : goal.returns
returns c =
    let state = c.args.state in
    let begins : c.if-stays_at.first ≡ (if c.stays_at.result then state else state + 1) = elim c.if-stays_at.branch [
      | then-stays_at w ↦ w.first-is ∙ sym (ap (λ (b : Bool). if b then state else state + 1) w.if-stays_at.true)
      | else-stays_at w ↦ w.first-is ∙ sym (ap (λ (b : Bool). if b then state else state + 1) w.if-stays_at.false)
    ] in
    ways_are c.args.pattern.now.items state c.if-stays_at.first c.last_way-last.result c.stays_at.result c.stays_at.ensures begins c.last_way-last.ensures

pub returns-then-state-items : goal.returns-then-state-items
returns-then-state-items c = no_ways c.args.pattern.now.items c.args.state (omega (arith, c.if-state-items.true, c.items.ensures.value))
