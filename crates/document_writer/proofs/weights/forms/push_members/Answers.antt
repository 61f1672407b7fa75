use Rattle.std.proofs.Common.{◌≡◌, ◌<◌, ◌==◌, ◌/◌, ◌%◌, ◌^◌, ◌++◌, ◌+◌, ◌||◌, true, false, length, sym, ap, ◌∙◌, [], map, codes, if◌then◌else◌, arith}
use Rattle.document_forms.specs.Names.{name}
use Rattle.document_writer.specs.private.Forms.{members_from}
use Rattle.document_writer.specs.private.Rows.{marked, has_some}
use Rattle.document_writer.proofs.FormLemmas.{members_missed, member_written, member_some}
use Rattle.document_writer.proofs.weights.forms.push_members.Goals as goal

pub loop-variable-preserved-then-not-has_variable : goal.loop-variable-preserved-then-not-has_variable
loop-variable-preserved-then-not-has_variable c =
    let names = c.args.names.now in
    let bits = c.args.from in
    let k = c.loop-variable.variable in
    let some = c.loop-variable.some in
    let below : k < length names = omega arith in
    let missed : (bits / 2 ^ k % 2 == 1) ≡ false = sym c.has_variable.ensures ∙ c.if-not-has_variable.true in
    let same = sym (members_missed names bits k below missed) in
    record {
      texts = ap (λ ks. c.loop-variable.out.items ++ marked (codes ", ") some (map (name names) ks)) same ∙ c.loop-variable.invariant.texts;
      some = ap (λ ks. some || has_some ks) same ∙ c.loop-variable.invariant.some;
    }

pub loop-variable-preserved : goal.loop-variable-preserved
loop-variable-preserved c =
    let names = c.args.names.now in
    let bits = c.args.from in
    let k = c.loop-variable.variable in
    let some = c.loop-variable.some in
    let item = c.index-names-variable.result in
    let below : k < length names = omega arith in
    let hit : (bits / 2 ^ k % 2 == 1) ≡ true = sym c.has_variable.ensures ∙ c.if-not-has_variable.false in
    let rest = marked (codes ", ") true (map (name names) (members_from names bits (k + 1))) in
    record {
      texts =
          ap (λ t. t ++ rest) (c.in_ok-push.ensures ∙ ap (λ t. t ++ c.as_bytes.result.now) c.in_ok-push_mark.ensures)
          ∙ ap (λ t. ((c.loop-variable.out.items ++ (if some then codes ", " else [])) ++ t) ++ rest) c.as_bytes.ensures
          ∙ member_written names bits k some c.loop-variable.out.items item below hit c.index-names-variable.is
          ∙ c.loop-variable.invariant.texts;
      some = sym (member_some names bits k some below hit) ∙ c.loop-variable.invariant.some;
    }
