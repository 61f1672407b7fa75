use Rattle.std.proofs.Common.{◌≡◌, ◌≤◌, ◌++◌, ◌∙◌, length, take, map, sym, ap, arith}
use Rattle.std.specs.Prelude.{codes}
use Rattle.std.specs.List.{flat_map}
use Rattle.std.proofs.lemmas.List.{take_all}
use Rattle.boolean_programs.specs.Programs.{program_of}
use Rattle.boolean_meaning.specs.HeldStates.{state_of}
use Rattle.state_text.specs.States.{state_line}
use Rattle.state_text.proofs.StateLemmas.{flat_mapped}
use Rattle.state_text.proofs.states.trace_text.Goals as goal

pub returns : goal.returns
returns c =
    let p = c.args.program.now in
    let q = program_of p in
    let at = c.loop-state in
    let states = c.args.states.now in
    let all : length states ≤ at.state-index = omega (arith, c.loop-state-test.false) in
    c.from_vec.ensures
    ∙ at.invariant
    ∙ ap (λ xs. codes "  trace:\n" ++ flat_map (λ s. state_line p (state_of q s)) xs) (take_all at.state-index states all)
    ∙ ap (λ t. codes "  trace:\n" ++ t) (flat_mapped (state_line p) (state_of q) states)
