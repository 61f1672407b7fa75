use Rattle.std.proofs.Common.{◌≡◌, ◌+◌, arith}
use Rattle.std.specs.Prelude.{if◌then◌else◌}
use Rattle.config_patterns.proofs.ItemLemmas.{few_finals, added, if_then, if_else}
use Rattle.config_patterns.proofs.pattern.Pattern.push.Goals as goal
use Rattle.config_patterns.proofs.pattern.Pattern.push.Goals.{then-star, else-star}

pub overflow_add-self : goal.overflow_add-self
overflow_add-self c = let few = few_finals _ _ _ c.self.invariant.0 c.self.invariant.1 in omega arith

pub invariant_of-self-2 : goal.invariant_of-self-2
invariant_of-self-2 c =
    let finals = c.self.inside.finals in
    let star = c.args.item.star in
    let after : c.if-star.self ≡ (if star then finals + 1 else 1) = elim c.if-star.branch [
      | then-star w ↦ if_then star (finals + 1) 1 c.if-star.self w.if-star.true w.self-is
      | else-star w ↦ if_else star (finals + 1) 1 c.if-star.self w.if-star.false w.self-is
    ] in
    added _ _ c.self.view_is _ finals c.args.edges c.if-star.self _ c.args.item.set star c.self.invariant.0 c.self.invariant.1
    c.requires.once c.requires.accepted c.requires.count after c.in_ok-push.ensures.items
