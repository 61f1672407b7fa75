use Rattle.std.proofs.Common.{◌≡◌, sym, ap, ◌∙◌, subst}
use Rattle.weighted_automata.specs.declared.place.Place.{Place}
use Rattle.weight_tables.specs.Tables.{TablesValue}
use Rattle.value_tails.specs.private.Steps.{IsRowLinked}
use Rattle.value_tails.proofs.LinkLemmas.{entry_at, links_none, no_symbol}
use Rattle.value_tails.proofs.links.link_entry.Goals as goal

pub link_row-requires-clause-entry : goal.link_row-requires-clause-entry
link_row-requires-clause-entry g c =
    let entry = entry_at c.args.tables.now.base c.args.t c.requires.entry in
    (entry.0, entry.1, sym (c.place-row.ensures entry.0 entry.1))

pub returns-in_ok-link_row-in-Symbol-clause-met : goal.returns-in_ok-link_row-in-Symbol-clause-met
returns-in_ok-link_row-in-Symbol-clause-met g c = λ e there.
    let v = c.args.tables.now in
    let P : Place → Type 0 = IsRowLinked (g.S.Semiring.operations v.system.semiring) c.args.first.now v c.link_row.new.tables.walk in
    subst P (c.place-row.ensures e there) c.in_ok-link_row-in-Symbol.ensures.met

pub returns-in-Empty : goal.returns-in-Empty
returns-in-Empty g c = record {
  lowered = links_none g.S.Semiring.operations (λ x. g.S.Semiring.laws x) c.args.first.now c.args.tables.now;
  met = λ e there k r at head. absurd (no_symbol e.place r.symbol (ap (λ (y : Place). y.label) (sym (c.place-row.ensures e there)) ∙ c.in-Empty.is) (ap (λ (y : Place). y.label) head));
}
