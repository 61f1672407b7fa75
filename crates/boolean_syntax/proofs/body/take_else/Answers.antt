use Rattle.boolean_syntax.proofs.BodyLemmas.{else_taken}
use Rattle.boolean_syntax.proofs.KindLemmas.{in_ok}
use Rattle.boolean_syntax.proofs.body.take_else.Goals as goal

pub returns : goal.returns
returns c = λ w above l h e number.
    in_ok c.take_frame_line.result _ _ (λ k t. else_taken w above l c.args.reading.now h c.take_frame_line.new.reading c.args.line k e number t) c.take_frame_line.ensures
