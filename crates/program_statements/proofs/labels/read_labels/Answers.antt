use Rattle.std.proofs.Common.{◌≡◌, ◌++◌, ◌∷◌, [], refl, sym, ap, ◌∙◌, subst}
use Rattle.wpds_port.specs.declared.Word.TheVariants.{Name}
use Rattle.document_forms.specs.Words.{name_of, each}
use Rattle.program_statements.specs.Parts.{HasLabels}
use Rattle.program_statements.proofs.PartLemmas.{each_front, some_each, names_end, moved, all_done}
use Rattle.program_statements.proofs.labels.read_labels.Goals as goal

pub loop-name-init : goal.loop-name-init
loop-name-init c = λ w xs t e.
    ([], xs, c.new-read.ensures w c.args.begun, ap (each name_of) c.reborrow-left.ensures.same ∙ some_each name_of c.args.words.now xs e, refl)

pub loop-name-preserved : goal.loop-name-preserved
loop-name-preserved c = λ w xs t e.
    let m = c.loop-name.invariant w xs t e in
    let x = c.in-Some.name.now in
    let f = each_front name_of c.loop-name.left (Name x) c.in-Some.rest m.1 m.3 c.in-Some.ensures in
    let here : f.0 ≡ x = cc (f.2) in
    (m.0 ++ f.0 ∷ [], f.1, subst (λ y. HasLabels w c.args.begun (m.0 ++ y ∷ []) c.add.new.self) (sym here) (c.in_ok-add.ensures w m.0 t m.2), f.3, moved m.0 f.0 m.1 f.1 xs m.4 f.4)

pub returns : goal.returns
returns c = λ w xs t e.
    let m = c.loop-name.invariant w xs t e in
    subst (λ l. HasLabels w c.args.begun l c.loop-name.read) (all_done m.0 m.1 xs m.4 (names_end c.loop-name.left m.1 m.3 c.in_default.ensures)) m.2
