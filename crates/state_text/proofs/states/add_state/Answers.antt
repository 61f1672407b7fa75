use Rattle.std.proofs.Common.{◌∙◌, sym}
use Rattle.state_text.proofs.StateLemmas.{on_top}
use Rattle.state_text.proofs.states.add_state.Goals as goal

pub returns-in-Some : goal.returns-in-Some
returns-in-Some c =
    let line = on_top c.args.program.now c.args.state.now.globals c.args.state.now.frames c.in-Some.frame (sym c.get.ensures ∙ c.in-Some.is) in
    rw (sym line) c.add_standing.ensures
