use Rattle.std.proofs.Common.{refl, ◌≡◌, ◌∙◌, ℕ, false, sym, ap, subst}
use Rattle.std.specs.Prelude.{None, Some, slice_get}
use Rattle.std.proofs.lemmas.Option.{slice_get_read, slice_get_past}
use Rattle.boolean_programs.specs.declared.point.Point.{Point}
use Rattle.boolean_programs.specs.Programs.{program_of}
use Rattle.lowering_laws.specs.Lowering.{symbol_points}
use Rattle.state_text.proofs.OwnerLemmas.{on_none, unowned, owned, lent}
use Rattle.state_text.proofs.owners.owner_at.Goals as goal

pub returns-in_default : goal.returns-in_default
returns-in_default c =
    let q = program_of c.args.program.now in
    let point : Point = record { line = c.args.line; failed = false } in
    on_none c.args.program.now c.args.line
    (λ k is. c.in_default.ensures.none k (subst (λ ps. slice_get ps k ≡ Some point) (sym c.requires.points) (c.plans_are_within.ensures.points q point k is)))

pub returns-in_default-get : goal.returns-in_default-get
returns-in_default-get c =
    let q = program_of c.args.program.now in
    let point : Point = record { line = c.args.line; failed = false } in
    let place = c.in-Some.place in
    let there = subst (λ ps. slice_get ps place ≡ Some point) c.requires.points c.in-Some.ensures.some in
    let none : slice_get c.args.owners.now place ≡ None = slice_get_past c.args.owners.now place c.in_default-get.ensures.lookup.3 in
    unowned c.args.program.now c.args.line place (c.plans_are_within.ensures.symbols q point place c.requires.read there)
    (ap (λ os. slice_get os place) (sym c.requires.owners) ∙ none)

pub returns : goal.returns
returns c =
    let q = program_of c.args.program.now in
    let point : Point = record { line = c.args.line; failed = false } in
    let place = c.in-Some.place in
    let owner = c.in-Some-get.owner.now in
    let there = subst (λ ps. slice_get ps place ≡ Some point) c.requires.points c.in-Some.ensures.some in
    let some : slice_get c.args.owners.now place ≡ Some owner = slice_get_read c.args.owners.now _ place owner refl c.in-Some-get.ensures.lookup.3.0 c.in-Some-get.ensures.lookup.1 in
    lent c.as_slice.result.now owner c.get-2.result c.get-2.ensures.lookup
    ∙ ap (λ ps. slice_get ps owner) c.as_slice.ensures
    ∙ owned c.args.program.now c.args.line place owner (c.plans_are_within.ensures.symbols q point place c.requires.read there)
    (ap (λ os. slice_get os place) (sym c.requires.owners) ∙ some)
