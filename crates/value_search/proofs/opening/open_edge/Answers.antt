use Rattle.std.proofs.Common.{refl, sym, ap, ◌∙◌, subst}
use Rattle.std.specs.Prelude.{Some}
use Rattle.semiring_laws.specs.Semiring.{Below}
use Rattle.pushdown_rules.specs.Values.{value_of}
use Rattle.config_patterns.specs.Edges.{edges_of}
use Rattle.value_laws.specs.Runs.{Sums}
use Rattle.value_laws.proofs.CallerLemmas.{opening_sums}
use Rattle.weight_tables.specs.Entries.{lowered_in}
use Rattle.weight_tables.specs.Tables.{with_entries}
use Rattle.weight_tables.specs.declared.layer.Layer.TheVariants.{Target}
use Rattle.value_search.specs.Views.{place_at, weights, Leads}
use Rattle.value_search.proofs.HandLemmas.{given_there, given_lies, hand_kept, hand_of}
use Rattle.value_search.proofs.opening.open_edge.Goals as goal

pub returns-clause-onward : goal.returns-clause-onward
returns-clause-onward g c =
    let p = c.args.system.now in
    let s = g.S.Semiring.operations p.semiring in
    let law = g.S.Semiring.laws p.semiring in
    let valid = c.semiring-semiring.ensures.valid in
    let aim = c.args.target.now in
    let old = c.args.tables.now in
    let x = place_at c.control-control.result c.args.symbol c.args.to in
    let P : g.row.S-W.Denot → Type 0 = Sums s (value_of s p) (Leads p (Some aim) aim.control c.args.symbol c.args.to) in
    given_there valid law (Some aim) old c.lower.new.self c.requires.search Target refl x aim.control c.args.symbol c.args.to (ap (λ f. place_at f c.args.symbol c.args.to) c.control-control.ensures.value)
    old.hand old.hand (subst P (sym c.requires.hand) (opening_sums valid law aim.control (edges_of aim.items) c.args.symbol c.args.to c.requires.edge))
    (c.in_ok-lower.ensures.ok ∙ hand_kept Target (lowered_in (g.S.Semiring.operations old.system.semiring) x old.hand old.target) old) c.valid.ensures.tables

pub returns-clause-given : goal.returns-clause-given
returns-clause-given g c =
    let p = c.args.system.now in
    let s = g.S.Semiring.operations p.semiring in
    let law = g.S.Semiring.laws p.semiring in
    let valid = c.semiring-semiring.ensures.valid in
    let aim = c.args.target.now in
    let old = c.args.tables.now in
    let x = place_at c.control-control.result c.args.symbol c.args.to in
    let P : g.row.S-W.Denot → Type 0 = Sums s (value_of s p) (Leads p (Some aim) aim.control c.args.symbol c.args.to) in
    let Q : g.row.S-W.Denot → Type 0 = Below s (weights s c.lower.new.self.target aim.control c.args.symbol c.args.to) in
    subst Q c.requires.hand
    (given_lies valid law (Some aim) old c.lower.new.self c.requires.search Target refl x aim.control c.args.symbol c.args.to (ap (λ f. place_at f c.args.symbol c.args.to) c.control-control.ensures.value)
    old.hand old.hand (subst P (sym c.requires.hand) (opening_sums valid law aim.control (edges_of aim.items) c.args.symbol c.args.to c.requires.edge))
    (c.in_ok-lower.ensures.ok ∙ hand_kept Target (lowered_in (g.S.Semiring.operations old.system.semiring) x old.hand old.target) old))

pub returns-clause-hand : goal.returns-clause-hand
returns-clause-hand g c =
    let old = c.args.tables.now in
    let x = place_at c.control-control.result c.args.symbol c.args.to in
    let es = lowered_in (g.S.Semiring.operations old.system.semiring) x old.hand old.target in
    hand_of old.hand old c.lower.new.self (with_entries Target es old) (c.in_ok-lower.ensures.ok ∙ hand_kept Target es old) ∙ c.requires.hand
