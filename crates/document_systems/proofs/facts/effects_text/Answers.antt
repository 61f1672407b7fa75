use Rattle.std.proofs.Common.{[], ◌∷◌, ap, ◌∙◌, append_assoc, codes}
use Rattle.std.specs.List.{join_with_byte}
use Rattle.genkill_weights.specs.Effects.{generates, kills}
use Rattle.document_systems.specs.ValueTexts.{names_where, or_one}
use Rattle.document_systems.proofs.facts.effects_text.Goals as goal

pub returns : goal.returns
returns g c =
    let n = g.row.N in
    let generated = or_one (codes "-") (names_where c.args.items.now (generates n c.args.weight.now)) in
    let killed = or_one (codes "-") (names_where c.args.items.now (kills n c.args.weight.now)) in
    let one = c.in_ok-push.ensures 32 [] c.new-row.ensures in
    let two = c.in_ok-push_facts.ensures 32 _ one in
    let three = c.in_ok-push-2.ensures 32 _ two in
    let four = c.in_ok-push_facts-2.ensures 32 _ three in
    c.into_text.ensures 32 _ four ∙ ap (λ ts. join_with_byte 32 (codes "gen" ∷ ts)) (append_assoc generated (codes "kill" ∷ []) killed)
