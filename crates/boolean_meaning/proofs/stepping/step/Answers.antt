use Rattle.boolean_programs.specs.Programs.{program_of}
use Rattle.boolean_meaning.specs.Bits.{bit_of}
use Rattle.boolean_meaning.specs.HeldStates.{state_of}
use Rattle.boolean_meaning.proofs.StepLemmas.{stepped, stays}
use Rattle.boolean_meaning.proofs.stepping.step.Goals as goal

pub returns-clause-ok : goal.returns-clause-ok
returns-clause-ok c =
    let p = program_of c.args.program.now in
    stepped p c.args.target c.args.bits c.args.state.now c.step_held.new.state c.in_ok-moved.moved c.requires.state c.in_ok-moved.ensures.ok

pub returns-clause-state : goal.returns-clause-state
returns-clause-state c =
    let p = program_of c.args.program.now in
    let lawful = c.programs_are_lawful.ensures.read p c.requires.read in
    let from = state_of p c.args.state.now in
    let is = c.requires.state.is in
    stays p c.args.target c.args.bits c.args.state.now c.step_held.new.state c.in_ok-moved.moved
    (λ t e. c.moves_keep_states.ensures.moves p from t lawful is (c.picks_make_moves.ensures.step p from t c.args.target (bit_of c.args.bits) lawful is e))
    c.requires.state
    (stepped p c.args.target c.args.bits c.args.state.now c.step_held.new.state c.in_ok-moved.moved c.requires.state c.in_ok-moved.ensures.ok)
