use Rattle.std.proofs.Common.{◌≡◌, true, false, sym, ap, ◌∙◌}
use Rattle.std.proofs.lemmas.Bool.{false≢true}
use Rattle.weighted_automata.specs.declared.place.Place.{Place}
use Rattle.weight_tables.specs.Entries.{lowered_in}
use Rattle.weight_tables.specs.Tables.{with_entries}
use Rattle.weight_tables.specs.declared.layer.Layer.TheVariants.{Target}
use Rattle.value_tails.proofs.TailLemmas.{reads_made, one_tail, one_tail_below}
use Rattle.value_tails.proofs.reading.read_edge.Goals as goal

pub returns-in_ok-lower-clause-lowered : goal.returns-in_ok-lower-clause-lowered
returns-in_ok-lower-clause-lowered g c =
    let a = c.args in
    let v = a.tables.now in
    let s = g.S.Semiring.operations v.system.semiring in
    let law = g.S.Semiring.laws v.system.semiring in
    let edge = c.leads.ensures.edge.0 c.if-leads.true in
    let made = c.in_ok-lower.ensures.ok ∙ ap (λ (x : Place). with_entries Target (lowered_in s x v.hand v.target) v) c.tail_place.ensures in
    one_tail g.S.Semiring.operations (λ x. g.S.Semiring.laws x) a.first.now v c.lower.new.self c.valid.ensures.tables.target.fits a.from v.hand c.valid.ensures.tables.hand
    (reads_made c.valid.ensures.system law a.first.now a.from edge.0 a.to edge.1 (c.leads.ensures.symbol c.if-leads.true edge.0 edge.1) v.hand c.requires.made) made

pub returns-in_ok-lower-clause-met : goal.returns-in_ok-lower-clause-met
returns-in_ok-lower-clause-met g c = λ _ _.
    let a = c.args in
    let v = a.tables.now in
    let s = g.S.Semiring.operations v.system.semiring in
    let law = g.S.Semiring.laws v.system.semiring in
    let edge = c.leads.ensures.edge.0 c.if-leads.true in
    let made = c.in_ok-lower.ensures.ok ∙ ap (λ (x : Place). with_entries Target (lowered_in s x v.hand v.target) v) c.tail_place.ensures in
    one_tail_below g.S.Semiring.operations (λ x. g.S.Semiring.laws x) a.first.now v c.lower.new.self c.valid.ensures.tables.target.fits a.from v.hand c.valid.ensures.tables.hand
    (reads_made c.valid.ensures.system law a.first.now a.from edge.0 a.to edge.1 (c.leads.ensures.symbol c.if-leads.true edge.0 edge.1) v.hand c.requires.made) made

pub returns-else-leads-clause-met : goal.returns-else-leads-clause-met
returns-else-leads-clause-met g c = λ h edge. absurd (false≢true (sym c.if-leads.false ∙ c.leads.ensures.edge.1 (h, edge)))
