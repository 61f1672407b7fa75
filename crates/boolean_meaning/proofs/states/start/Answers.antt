use Rattle.std.proofs.Common.{sym, ap, ◌∙◌, subst}
use Rattle.boolean_programs.specs.Programs.{program_of}
use Rattle.boolean_machine.specs.Machine.{State as MachineState, IsStart}
use Rattle.boolean_meaning.specs.declared.state.State.{State}
use Rattle.boolean_meaning.specs.Bits.{bit_of}
use Rattle.boolean_meaning.specs.HeldStates.{state_of, IsHeld}
use Rattle.boolean_meaning.specs.Steps.{start_of}
use Rattle.boolean_meaning.proofs.StateLemmas.{state_back, state_held, starts}
use Rattle.boolean_meaning.proofs.states.start.Goals as goal

pub returns-clause-state : goal.returns-clause-state
returns-clause-state c =
    let p = program_of c.args.program.now in
    let lawful = c.programs_are_lawful.ensures.read p c.requires in
    let first = start_of p (bit_of c.args.globals) (bit_of c.args.locals) in
    let is = c.moves_keep_states.ensures.start p first lawful (starts p c.requires (bit_of c.args.globals) (bit_of c.args.locals)) in
    subst (λ (s : State). IsHeld p s) (sym c.in_ok-state.ensures) (state_held p first is)

pub returns-clause-begins : goal.returns-clause-begins
returns-clause-begins c =
    let p = program_of c.args.program.now in
    let lawful = c.programs_are_lawful.ensures.read p c.requires in
    let first = start_of p (bit_of c.args.globals) (bit_of c.args.locals) in
    let begins = starts p c.requires (bit_of c.args.globals) (bit_of c.args.locals) in
    let is = c.moves_keep_states.ensures.start p first lawful begins in
    let same = ap (state_of p) c.in_ok-state.ensures ∙ state_back p first is in
    subst (λ (t : MachineState). IsStart p t) (sym same) begins
