use Rattle.std.proofs.Common.{◌≡◌, ◌^◌, false, true, not, ◌&&◌, nat_lt, sym, ap, ◌∙◌}
use Rattle.std.specs.Prelude.{None, option_map}
use Rattle.boolean_programs.specs.Programs.{program_of, procedure_of}
use Rattle.boolean_programs.specs.Lines.{instruction_at}
use Rattle.boolean_machine.specs.StateTests.{calls}
use Rattle.boolean_meaning.specs.private.HeldTests.{is_narrow}
use Rattle.boolean_meaning.specs.private.Spots.{instruction_of}
use Rattle.boolean_meaning.proofs.StateLemmas.{width_owner}
use Rattle.boolean_meaning.proofs.TurnLemmas.{waits_nowhere, waits_not, waits_on}
use Rattle.boolean_meaning.proofs.states.are_waiting.Goals as goal

pub returns-in_default-find : goal.returns-in_default-find
returns-in_default-find c =
    let p = program_of c.args.program.now in
    let at = c.loop-place in
    let f = c.in-Some.frame in
    let none : instruction_at p f.point.line ≡ None = sym c.find.ensures.at ∙ ap (option_map instruction_of) c.in_default-find.is in
    sym (sym at.invariant ∙ waits_nowhere p c.args.frames.now at.callee at.place f (sym c.in-Some.ensures) none)

pub returns-then-not-may_wait : goal.returns-then-not-may_wait
returns-then-not-may_wait c =
    let p = program_of c.args.program.now in
    let at = c.loop-place in
    let f = c.in-Some.frame in
    let spot = c.in-Some-find.spot in
    let i = instruction_of spot in
    let is = c.in-Some-find.ensures.spot c.requires in
    let here : ((not f.point.failed && calls i.statement at.callee) && is_narrow p i.procedure f) ≡ false =
    ap (λ w. (not f.point.failed && calls i.statement at.callee) && nat_lt f.locals (2 ^ w)) (width_owner p spot.procedure (procedure_of spot.owner.now) is.owner)
    ∙ sym c.may_wait.ensures ∙ c.if-not-may_wait.true in
    sym (sym at.invariant ∙ waits_not p c.args.frames.now at.callee at.place f (sym c.in-Some.ensures) i is.there here)

pub loop-place-preserved : goal.loop-place-preserved
loop-place-preserved c =
    let p = program_of c.args.program.now in
    let at = c.loop-place in
    let f = c.in-Some.frame in
    let spot = c.in-Some-find.spot in
    let i = instruction_of spot in
    let is = c.in-Some-find.ensures.spot c.requires in
    let here : ((not f.point.failed && calls i.statement at.callee) && is_narrow p i.procedure f) ≡ true =
    ap (λ w. (not f.point.failed && calls i.statement at.callee) && nat_lt f.locals (2 ^ w)) (width_owner p spot.procedure (procedure_of spot.owner.now) is.owner)
    ∙ sym c.may_wait.ensures ∙ c.if-not-may_wait.false in
    waits_on p c.args.frames.now at.callee at.place f (sym c.in-Some.ensures) i is.there here ∙ at.invariant
