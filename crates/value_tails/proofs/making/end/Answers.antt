use Rattle.std.proofs.Common.{◌≡◌, sym, ap, ◌∙◌, subst}
use Rattle.semiring_laws.specs.Semiring.{Below}
use Rattle.weighted_automata.specs.declared.place.Place.{Place}
use Rattle.weight_tables.specs.Entries.{lowered_in}
use Rattle.weight_tables.specs.Tables.{with_entries}
use Rattle.weight_tables.specs.declared.layer.Layer.TheVariants.{Target}
use Rattle.value_tails.specs.Tailing.{tail_in, IsTail}
use Rattle.value_tails.proofs.TailLemmas.{ends_made, one_tail, one_tail_below}
use Rattle.value_tails.proofs.making.end.Goals as goal

pub returns-in_ok-lower-clause-lowered : goal.returns-in_ok-lower-clause-lowered
returns-in_ok-lower-clause-lowered g c =
    let a = c.args in
    let v = a.tables.now in
    let s = g.S.Semiring.operations v.system.semiring in
    let law = g.S.Semiring.laws v.system.semiring in
    let made = c.in_ok-lower.ensures.ok ∙ ap (λ (x : Place). with_entries Target (lowered_in s x v.hand v.target) v) c.tail_place.ensures in
    let M : g.row.S-W.Denot → Type 0 = IsTail s a.first.now v.system a.state in
    one_tail g.S.Semiring.operations (λ x. g.S.Semiring.laws x) a.first.now v c.lower.new.self c.valid.ensures.tables.target.fits a.state v.hand c.valid.ensures.tables.hand
    (subst M (sym c.requires.hand) (ends_made c.valid.ensures.system law a.first.now a.state (sym c.is_final.ensures ∙ c.if-is_final.true))) made

pub returns-in_ok-lower-clause-met : goal.returns-in_ok-lower-clause-met
returns-in_ok-lower-clause-met g c = λ final.
    let a = c.args in
    let v = a.tables.now in
    let s = g.S.Semiring.operations v.system.semiring in
    let law = g.S.Semiring.laws v.system.semiring in
    let made = c.in_ok-lower.ensures.ok ∙ ap (λ (x : Place). with_entries Target (lowered_in s x v.hand v.target) v) c.tail_place.ensures in
    let M : g.row.S-W.Denot → Type 0 = IsTail s a.first.now v.system a.state in
    let Q : g.row.S-W.Denot → Type 0 = Below s (tail_in s c.lower.new.self.target a.state) in
    subst Q c.requires.hand
    (one_tail_below g.S.Semiring.operations (λ x. g.S.Semiring.laws x) a.first.now v c.lower.new.self c.valid.ensures.tables.target.fits a.state v.hand c.valid.ensures.tables.hand
    (subst M (sym c.requires.hand) (ends_made c.valid.ensures.system law a.first.now a.state final)) made)
