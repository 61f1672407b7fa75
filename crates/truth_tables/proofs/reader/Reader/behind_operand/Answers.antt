use Rattle.std.proofs.Common.{◌≡◌, Err, sym, ◌∙◌, subst}
use Rattle.std.specs.Prelude.{Result}
use Rattle.std.proofs.lemmas.Result.{err_from_is_err_and}
use Rattle.truth_tables.specs.Stacks.{behind_operand}
use Rattle.truth_tables.specs.private.Kept.{IsBehind}
use Rattle.truth_tables.specs.declared.stop.Stop.{Stop}
use Rattle.truth_tables.specs.declared.reader.Position.{Position}
use Rattle.truth_tables.proofs.MarkLemmas.{mark_operator, mark_stops}
use Rattle.truth_tables.proofs.reader.Reader.behind_operand.Goals as goal

pub returns-in-Some : goal.returns-in-Some
returns-in-Some c =
    let old = c.args.self.now in
    let now = c.at_operator.new.self in
    mark_operator c.args.mark c.in-Some.operator c.args.limit c.args.depth old.pending.items now.pending.items old.parts now.parts c.at_operator.result
    (sym c.of.ensures ∙ c.in-Some.is) c.at_operator.ensures

pub returns-in_err-joined-in-Comma : goal.returns-in_err-joined-in-Comma
returns-in_err-joined-in-Comma c =
    let old = c.args.self.now in
    let now = c.join.new.self in
    let result = c.from_residual.result in
    let p = err_from_is_err_and result c.from_residual.ensures.1 in
    let s = c.in_err-joined-in-Comma.field-0.0 in
    let same : result ≡ Err s = cc (p.1, p.2) in
    subst (λ (r : Result Position Stop). IsBehind (behind_operand c.args.mark) c.args.limit old.pending.items old.parts c.args.depth r now.pending.items now.parts) (sym same)
    (mark_stops c.args.mark c.args.limit 1 c.args.depth old.pending.items now.pending.items now.pending.items old.parts now.parts now.parts s c.in_err-joined-in-Comma.ensures)

pub returns-in_err-joined-in-Close : goal.returns-in_err-joined-in-Close
returns-in_err-joined-in-Close c =
    let old = c.args.self.now in
    let now = c.join-in-Close.new.self in
    let result = c.from_residual-in_err-joined-in-Close.result in
    let p = err_from_is_err_and result c.from_residual-in_err-joined-in-Close.ensures.1 in
    let s = c.in_err-joined-in-Close.field-0.0 in
    let same : result ≡ Err s = cc (p.1, p.2) in
    subst (λ (r : Result Position Stop). IsBehind (behind_operand c.args.mark) c.args.limit old.pending.items old.parts c.args.depth r now.pending.items now.parts) (sym same)
    (mark_stops c.args.mark c.args.limit 1 c.args.depth old.pending.items now.pending.items now.pending.items old.parts now.parts now.parts s c.in_err-joined-in-Close.ensures)
