use Rattle.std.proofs.Common.{length, sym, ap, ◌∙◌}
use Rattle.boolean_programs.specs.Programs.{program_of}
use Rattle.boolean_meaning.proofs.FitLemmas.{names_long}
use Rattle.boolean_meaning.proofs.moving.goes_on.Goals as goal

pub gives_all-requires-clause-alike : goal.gives_all-requires-clause-alike
gives_all-requires-clause-alike c =
    let p = program_of c.args.program.now in
    let spot = c.args.spot.now in
    let at = c.requires.spot in
    let new = names_long p at.0 spot at.1 c.args.to.now.globals c.in-Some.after.locals in
    let kept = names_long p at.0 spot at.1 c.args.from.now.globals c.args.before.locals in
    ap (λ bs. length bs) (c.as_slice-then-same_frames.ensures ∙ c.names_in-new.ensures) ∙ new
    ∙ sym (ap (λ bs. length bs) (c.as_slice.ensures ∙ c.names_in-kept.ensures) ∙ kept)
