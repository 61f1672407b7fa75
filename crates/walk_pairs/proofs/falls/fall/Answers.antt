use Rattle.std.proofs.Common.{◌≡◌, sym, ap, ◌∙◌}
use Rattle.weighted_automata.specs.declared.place.Place.{Place}
use Rattle.weight_tables.specs.Entries.{lowered_in}
use Rattle.weight_tables.specs.Tables.{with_entries}
use Rattle.weight_tables.specs.declared.layer.Layer.TheVariants.{Walk}
use Rattle.walk_pairs.specs.declared.pairs.Order.{Order}
use Rattle.walk_pairs.specs.declared.pairs.Order.TheVariants.{Then, After}
use Rattle.walk_pairs.specs.Pairs.{joined, pair_place}
use Rattle.walk_pairs.proofs.falls.fall.Goals as goal

pub returns-in_ok-lower_then-in-Then : goal.returns-in_ok-lower_then-in-Then
returns-in_ok-lower_then-in-Then g c = λ e there.
    let a = c.args in
    let v = a.tables.now in
    let s = g.S.Semiring.operations v.system.semiring in
    let F = λ (x : Place) (w : g.row.S-W.Denot). with_entries Walk (lowered_in s x w v.walk) v in
    let here : c.pair_place-place.result ≡ pair_place a.stage a.next e.place.to = c.pair_place-place.ensures ∙ ap (λ (p : Place). pair_place a.stage a.next p.to) (c.place-to.ensures e there) in
    c.in_ok-lower_then-in-Then.ensures.ok e there ∙ ap (λ (x : Place). F x (joined s Then v.hand e.weight)) here ∙ ap (λ (o : Order). F (pair_place a.stage a.next e.place.to) (joined s o v.hand e.weight)) (sym c.in-Then.is)

pub returns-in_ok-lower_after-in-After : goal.returns-in_ok-lower_after-in-After
returns-in_ok-lower_after-in-After g c = λ e there.
    let a = c.args in
    let v = a.tables.now in
    let s = g.S.Semiring.operations v.system.semiring in
    let F = λ (x : Place) (w : g.row.S-W.Denot). with_entries Walk (lowered_in s x w v.walk) v in
    let here : c.pair_place-place.result ≡ pair_place a.stage a.next e.place.to = c.pair_place-place.ensures ∙ ap (λ (p : Place). pair_place a.stage a.next p.to) (c.place-to.ensures e there) in
    c.in_ok-lower_after-in-After.ensures.ok e there ∙ ap (λ (x : Place). F x (joined s After v.hand e.weight)) here ∙ ap (λ (o : Order). F (pair_place a.stage a.next e.place.to) (joined s o v.hand e.weight)) (sym c.in-After.is)
