use Rattle.std.proofs.Common.{◌≡◌, sym, subst}
use Rattle.std.specs.Prelude.{Some, slice_get}
use Rattle.boolean_lowering.specs.private.Made.{program_in}
use Rattle.boolean_lowering.proofs.PointLemmas.{symbol_is, no_symbol}
use Rattle.boolean_lowering.proofs.making.Making.symbol.Goals as goal

pub returns-in-Some : goal.returns-in-Some
returns-in-Some c =
    let p = program_in c.args.self.now in
    let point = c.args.point in
    let g = c.in-Some.symbol in
    symbol_is p point g (c.plans_are_within.ensures.symbols p point g c.requires.read (subst (λ ps. slice_get ps g ≡ Some point) c.requires.points c.in-Some.ensures.some))

pub returns-in-None : goal.returns-in-None
returns-in-None c =
    let p = program_in c.args.self.now in
    let point = c.args.point in
    no_symbol p point (λ g e. c.in-None.ensures.none g (subst (λ ps. slice_get ps g ≡ Some point) (sym c.requires.points) (c.plans_are_within.ensures.points p point g e)))
