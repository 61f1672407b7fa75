use Rattle.std.proofs.Common.{◌≡◌, ◌+◌, length, sym, ◌∙◌, rules}
use Rattle.std.specs.Prelude.{◌↔◌, IsTrue, Some}
use Rattle.diagram_store.specs.Nodes.{IsReduced}
use Rattle.diagram_store.proofs.WalkLemmas.{canonical_from_turned, turned_from_canonical}
use Rattle.diagram_store.proofs.form.canonical.Goals as goal

pub returns-then-is_reduced : goal.returns-then-is_reduced
returns-then-is_reduced c =
    let reduced : IsReduced c.args.nodes.now = search rules in
    let turned : IsTrue c.eq.result ↔ (c.turn_after.result ≡ Some (length c.args.nodes.now + 2)) = search rules in (
      λ yes. canonical_from_turned c.args.root c.args.nodes.now (record { reduced = reduced; post_order = sym c.turn_after.ensures ∙ turned.0 yes }),
      λ canonical. turned.1 (c.turn_after.ensures ∙ (turned_from_canonical c.args.root c.args.nodes.now canonical).post_order),
    )
