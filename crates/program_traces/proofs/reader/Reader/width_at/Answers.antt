use Rattle.std.proofs.Common.{◌≡◌, ◌≤◌, sym, ap, ◌∙◌, subst}
use Rattle.std.specs.Prelude.{Some, slice_get, unwrap_or}
use Rattle.wpds_base.specs.Limits.{most_related}
use Rattle.boolean_machine.specs.Machine.{at_line}
use Rattle.boolean_meaning.specs.HeldStates.{width_at}
use Rattle.lowering_laws.specs.Lowering.{symbol_points}
use Rattle.program_traces.specs.private.Readers.{program_in}
use Rattle.program_traces.proofs.PointLemmas.{no_symbol, width_none, width_there, width_few}
use Rattle.program_traces.proofs.reader.Reader.width_at.Goals as goal

found : (c : goal.After-width_of) → c.width_of.result ≡ width_at (program_in c.args.self.now) c.args.line
found c =
    let p = program_in c.args.self.now in
    let point = at_line c.args.line in
    let g = c.in-Some.symbol in
    let there : slice_get (symbol_points p) g ≡ Some point = ap (λ l. slice_get l g) (sym c.requires.points) ∙ c.in-Some.ensures.some ∙ ap Some c.at_line.ensures in
    let symbol = c.plans_are_within.ensures.symbols p point g c.requires.read there in
    c.width_of.ensures
    ∙ ap (λ l. unwrap_or (slice_get l g) 0) c.deref.ensures.value
    ∙ sym (width_there p c.args.line c.args.self.now.widths.items c.requires.widths g symbol)

pub returns-in-Some-clause-width : goal.returns-in-Some-clause-width
returns-in-Some-clause-width c = found c

pub returns-in-Some-clause-few : goal.returns-in-Some-clause-few
returns-in-Some-clause-few c = subst (λ w. w ≤ most_related) (sym (found c)) (width_few (program_in c.args.self.now) c.args.line c.requires.read)

pub returns-in-None-clause-width : goal.returns-in-None-clause-width
returns-in-None-clause-width c =
    let p = program_in c.args.self.now in
    let point = at_line c.args.line in
    let none = no_symbol p point (λ g e. c.plans_are_within.ensures.points p point g e)
    (λ g e. c.in-None.ensures.none g (ap (λ l. slice_get l g) c.requires.points ∙ e ∙ ap Some (sym c.at_line.ensures))) in
    sym (width_none p c.args.line none)
