use Rattle.std.proofs.Common.{◌↔◌, Bool, sym, subst}
use Rattle.std.specs.Prelude.{IsTrue}
use Rattle.boolean_programs.specs.Programs.{program_of}
use Rattle.boolean_meaning.specs.HeldStates.{state_of, IsHeld}
use Rattle.boolean_meaning.proofs.HeldStateLemmas.{held_tested}
use Rattle.boolean_meaning.proofs.states.is_state.Goals as goal

pub returns : goal.returns
returns c =
    let p = program_of c.args.program.now in
    let s = c.args.state.now in
    let P : Bool → Type 0 = λ b. IsTrue b ↔ IsHeld p s in
    subst P (sym c.is_held.ensures) (held_tested p c.requires s (c.moves_are_tested.ensures.states p (state_of p s)))
