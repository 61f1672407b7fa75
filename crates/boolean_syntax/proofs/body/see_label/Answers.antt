use Rattle.std.proofs.Common.{not, sym, ap, ◌∙◌, refl, subst}
use Rattle.document_forms.specs.Names.{is_among}
use Rattle.program_forms.specs.Kinds.{listed}
use Rattle.program_lines.specs.Texts.{label_said}
use Rattle.rule_reader.proofs.CallerLemmas.{seen_more, not_twice}
use Rattle.boolean_syntax.specs.private.Readings.{HasSeen}
use Rattle.boolean_syntax.proofs.NameLemmas.{one_known}
use Rattle.boolean_syntax.proofs.body.see_label.Goals as goal

pub returns-in_ok-add-in-Some : goal.returns-in_ok-add-in-Some
returns-in_ok-add-in-Some c =
    let old = c.args.seen.now in
    let new = c.add.new.self in
    let name = c.in-Some.name.now in
    let added = c.in_ok-add-in-Some.ensures in
    subst (λ o. HasSeen old new (listed (label_said o)) (not c.in_ok-add-in-Some.field-0)) (sym c.in-Some.is)
    (record {
      again = ap not added.added ∙ not_twice (is_among old name) ∙ sym (one_known old name);
      names = seen_more old new old name c.in_ok-add-in-Some.field-0 (λ x. refl) added.added added.names;
    })
