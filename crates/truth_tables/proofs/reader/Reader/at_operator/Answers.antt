use Rattle.std.proofs.Common.{◌≡◌, Err, sym, subst}
use Rattle.std.specs.Prelude.{Result, Ok}
use Rattle.std.proofs.lemmas.Result.{err_from_is_err_and}
use Rattle.truth_tables.specs.private.Kept.{IsBehind, IsJoining, with_operator}
use Rattle.truth_tables.specs.declared.stop.Stop.{Stop}
use Rattle.truth_tables.specs.declared.reader.Position.{Position}
use Rattle.truth_tables.proofs.MarkLemmas.{operator_opens, operator_stops}
use Rattle.truth_tables.proofs.reader.Reader.at_operator.Goals as goal

pub returns-in_err-joined : goal.returns-in_err-joined
returns-in_err-joined c =
    let old = c.args.self.now in
    let now = c.join.new.self in
    let p = err_from_is_err_and c.from_residual.result c.from_residual.ensures.1 in
    let s = c.in_err-joined.field-0.0 in
    let same : c.from_residual.result ≡ Err s = cc (p.1, p.2) in
    let joining = subst (λ k. IsJoining c.args.limit k old.pending.items old.parts c.args.depth (Err s) now.pending.items now.parts) c.least_left.ensures c.in_err-joined.ensures in
    subst (λ (r : Result Position Stop). IsBehind (with_operator c.args.operator) c.args.limit old.pending.items old.parts c.args.depth r now.pending.items now.parts) (sym same)
    (operator_stops c.args.operator c.args.limit c.args.depth old.pending.items now.pending.items now.pending.items old.parts now.parts now.parts s joining)

pub returns : goal.returns
returns c =
    let old = c.args.self.now in
    let mid = c.join.new.self in
    let now = c.opened.new.self in
    let more = c.in_ok-joined.joined in
    let joining = subst (λ k. IsJoining c.args.limit k old.pending.items old.parts c.args.depth (Ok more) mid.pending.items mid.parts) c.least_left.ensures c.in_ok-joined.ensures in
    operator_opens c.args.operator c.args.limit c.args.depth more old.pending.items mid.pending.items now.pending.items old.parts mid.parts now.parts c.opened.result
    joining c.opened.ensures.built c.opened.ensures.«open»
