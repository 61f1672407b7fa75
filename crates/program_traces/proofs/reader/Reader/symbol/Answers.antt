use Rattle.std.proofs.Common.{◌≡◌, sym, ap, ◌∙◌}
use Rattle.std.specs.Prelude.{Some, slice_get, unwrap_or}
use Rattle.lowering_laws.specs.Lowering.{symbol_points}
use Rattle.program_traces.specs.private.Readers.{program_in}
use Rattle.program_traces.proofs.PointLemmas.{symbol_there, no_symbol}
use Rattle.program_traces.proofs.reader.Reader.symbol.Goals as goal

pub returns-in-Some : goal.returns-in-Some
returns-in-Some c =
    let p = program_in c.args.self.now in
    let point = c.args.point in
    let g = c.in-Some.symbol in
    let there : slice_get (symbol_points p) g ≡ Some point = ap (λ l. slice_get l g) (sym c.requires.points) ∙ c.in-Some.ensures.some in
    symbol_there p point g (c.plans_are_within.ensures.symbols p point g c.requires.read there)

pub returns-in-None : goal.returns-in-None
returns-in-None c =
    let p = program_in c.args.self.now in
    let point = c.args.point in
    let none = no_symbol p point (λ g e. c.plans_are_within.ensures.points p point g e)
    (λ g e. c.in-None.ensures.none g (ap (λ l. slice_get l g) c.requires.points ∙ e)) in
    sym (ap (λ o. unwrap_or o 0) none)
