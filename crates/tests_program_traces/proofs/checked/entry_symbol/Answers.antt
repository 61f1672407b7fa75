use Rattle.std.proofs.Common.{◌≡◌, sym, ap, ◌∙◌}
use Rattle.std.specs.Prelude.{Some, slice_get, unwrap_or}
use Rattle.boolean_programs.specs.Programs.{program_of}
use Rattle.boolean_meaning.specs.declared.state.State.{State}
use Rattle.boolean_meaning.specs.Bits.{bit_of}
use Rattle.tests_program_traces.proofs.RunLemmas.{begins}
use Rattle.lowering_laws.specs.Lowering.{symbol, symbol_points}
use Rattle.lowering_laws.specs.Queries.{entry_point}
use Rattle.program_traces.proofs.CallerLemmas.{symbol_there, no_symbol}
use Rattle.tests_program_traces.proofs.checked.entry_symbol.Goals as goal

pub returns-in-Some-symbol : goal.returns-in-Some-symbol
returns-in-Some-symbol c =
    let p = program_of c.args.program.now in
    let point = c.in-Some.frame.point in
    let g = c.in-Some-symbol.symbol in
    let there : slice_get (symbol_points p) g ≡ Some point = ap (λ l. slice_get l g) (sym c.requires.points) ∙ c.in-Some-symbol.ensures.some in
    let first = ap (λ (s : State). slice_get s.frames 0) (sym c.in_ok-first.ensures.start) ∙ sym c.in-Some.ensures in
    let at : entry_point p ≡ point = begins p (bit_of 0) (bit_of 0) c.in-Some.frame first in
    symbol_there p point g (c.plans_are_within.ensures.symbols p point g c.requires.read there) ∙ sym (ap (λ q. symbol p q) at)

pub returns-in-Some : goal.returns-in-Some
returns-in-Some c =
    let p = program_of c.args.program.now in
    let point = c.in-Some.frame.point in
    let none = no_symbol p point (λ g e. c.plans_are_within.ensures.points p point g e)
    (λ g e. c.in-None-symbol.ensures.none g (ap (λ l. slice_get l g) c.requires.points ∙ e)) in
    let first = ap (λ (s : State). slice_get s.frames 0) (sym c.in_ok-first.ensures.start) ∙ sym c.in-Some.ensures in
    let at : entry_point p ≡ point = begins p (bit_of 0) (bit_of 0) c.in-Some.frame first in
    sym (ap (λ o. unwrap_or o 0) none) ∙ sym (ap (λ q. symbol p q) at)
