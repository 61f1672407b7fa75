use Rattle.std.proofs.Common.{◌≡◌, ◌++◌, ◌∷◌, [], refl, sym, ap, ◌∙◌, subst}
use Rattle.document_forms.specs.Words.{each}
use Rattle.document_forms.specs.Weights.{target_of}
use Rattle.program_statements.specs.Parts.{HasTargets}
use Rattle.program_statements.proofs.PartLemmas.{each_front, each_none, moved, all_done}
use Rattle.program_statements.proofs.targets.read_targets.Goals as goal

pub loop-piece-init : goal.loop-piece-init
loop-piece-init c = λ vs e. ([], vs, c.new-read.ensures c.args.names.now, ap (each target_of) c.new-pieces.ensures ∙ e, refl)

pub loop-piece-preserved : goal.loop-piece-preserved
loop-piece-preserved c = λ vs e.
    let m = c.loop-piece.invariant vs e in
    let f = each_front target_of c.loop-piece.pieces c.in-Some.piece c.next.new.self m.1 m.3 c.in-Some.ensures.piece in
    (m.0 ++ f.0 ∷ [], f.1, c.in_ok-take.ensures m.0 f.0 m.2 f.2, f.3, moved m.0 f.0 m.1 f.1 vs m.4 f.4)

pub returns : goal.returns
returns c = λ vs e.
    let m = c.loop-piece.invariant vs e in
    subst (λ l. HasTargets c.args.names.now l c.loop-piece.read) (all_done m.0 m.1 vs m.4 (each_none target_of c.loop-piece.pieces m.1 m.3 c.in_default.ensures.piece)) m.2
