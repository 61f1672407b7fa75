use Rattle.boolean_programs.specs.Programs.{program_of}
use Rattle.boolean_meaning.specs.HeldStates.{state_of}
use Rattle.boolean_meaning.proofs.MoveLemmas.{move_tested}
use Rattle.boolean_meaning.proofs.moving.is_move.Goals as goal

pub returns : goal.returns
returns c =
    let p = program_of c.args.program.now in
    let from = c.args.from.now in
    let to = c.args.to.now in
    let lawful = c.programs_are_lawful.ensures.read p c.requires in
    move_tested p lawful from to (c.is_state.ensures.0 c.if-not-is_state.false) (c.is_state-2.ensures.0 c.if-not-is_state-2.false) (c.moves_are_tested.ensures.moves p (state_of p from) (state_of p to)) c.moves.result c.moves.ensures
