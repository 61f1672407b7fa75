use Rattle.std.proofs.Common.{◌≡◌, ◌++◌, ◌∷◌, [], sym, ap, ◌∙◌, rules}
use Rattle.std.specs.Prelude.{option_map}
use Rattle.wpds_port.specs.declared.Mark.TheVariants.{Comma}
use Rattle.wpds_port.specs.declared.Word.TheVariants.{Mark as Sign}
use Rattle.document_forms.specs.Weights.{Parts}
use Rattle.rule_reader.specs.private.PairTexts.{parts_in, parts_behind, from_pair}
use Rattle.rule_reader.specs.private.FormReads.{part_form, HasParts}
use Rattle.rule_reader.proofs.EachLemmas.{read_none, read_more}
use Rattle.rule_reader.proofs.weights.forms.read_meet.Goals as goal

pub loop-part-init : goal.loop-part-init
loop-part-init c =
    let none : HasParts c.args.items.now (Parts []) c.new-parts.result = search rules in
    record {
      read = ([], none, ap parts_in (sym c.reborrow-left.ensures.same) ∙ read_none (parts_in c.reborrow-left.result));
      rest = ap from_pair (sym c.reborrow-left.ensures.same);
    }

pub loop-part-preserved : goal.loop-part-preserved
loop-part-preserved c =
    let before = c.loop-part.invariant.read in
    let done = before.0 in
    let p = part_form c.in_ok-part.part in
    let w = c.in-Some-Mark-Comma-default in
    let comma : c.in_ok-part.rest ≡ Sign Comma ∷ w.behind = search rules in
    record {
      read = (
        done ++ p ∷ [],
        c.add.ensures done before.1,
        before.2
            ∙ ap (option_map (λ more. done ++ more)) (c.in_ok-part.ensures.parts ∙ ap (parts_behind p) comma)
            ∙ read_more (λ l. l) done p (parts_in w.behind),
      );
      rest = c.loop-part.invariant.rest ∙ c.in_ok-part.ensures.rest ∙ ap from_pair comma;
    }
