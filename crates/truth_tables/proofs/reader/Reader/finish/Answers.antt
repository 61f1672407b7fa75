use Rattle.std.proofs.Common.{◌≡◌, ℕ, List, Err, Ok, sym, ◌∙◌, subst, arith}
use Rattle.std.specs.Prelude.{Result}
use Rattle.std.proofs.lemmas.Bool.{eqb-true, eqb-false}
use Rattle.std.proofs.lemmas.List.{nil_from_length}
use Rattle.std.proofs.lemmas.Result.{err_from_is_err_and}
use Rattle.truth_tables.specs.Formulas.{Formula}
use Rattle.truth_tables.specs.private.Kept.{IsEnding}
use Rattle.truth_tables.specs.declared.stop.Stop.{Stop}
use Rattle.truth_tables.specs.declared.stop.Stop.TheVariants.{Form}
use Rattle.truth_tables.proofs.MarkLemmas.{end_stops, end_empty, end_open}
use Rattle.truth_tables.proofs.reader.Reader.finish.Goals as goal

pub returns-in_err-join : goal.returns-in_err-join
returns-in_err-join c =
    let old = c.args.self in
    let now = c.join.new.self in
    let p = err_from_is_err_and c.from_residual.result c.from_residual.ensures.1 in
    let s = c.in_err-join.field-0.0 in
    let same : c.from_residual.result ≡ Err s = cc (p.1, p.2) in
    subst (λ (r : Result (List (Formula ℕ)) Stop). IsEnding c.args.limit c.args.position old.pending.items old.parts r) (sym same)
    (subst (λ x. IsEnding c.args.limit x old.pending.items old.parts (Err s)) (sym c.in-Behind.is)
    (end_stops c.args.limit c.in-Behind.depth old.pending.items now.pending.items old.parts now.parts s c.in_err-join.ensures))

pub returns-then-is_empty : goal.returns-then-is_empty
returns-then-is_empty c =
    let old = c.args.self in
    let now = c.join.new.self in
    let none = eqb-true _ 0 (sym c.is_empty.ensures ∙ c.if-is_empty.true) in
    subst (λ x. IsEnding c.args.limit x old.pending.items old.parts (Ok now.parts)) (sym c.in-Behind.is)
    (end_empty c.args.limit c.in-Behind.depth c.in_ok-join.field-0 old.pending.items now.pending.items old.parts now.parts c.in_ok-join.ensures
    (nil_from_length now.pending.items (sym now.pending.ok.0 ∙ none)))

pub returns-else-is_empty : goal.returns-else-is_empty
returns-else-is_empty c =
    let old = c.args.self in
    let now = c.join.new.self in
    let some = eqb-false _ 0 (sym c.is_empty.ensures ∙ c.if-is_empty.false) in
    subst (λ x. IsEnding c.args.limit x old.pending.items old.parts (Err Form)) (sym c.in-Behind.is)
    (end_open c.args.limit c.in-Behind.depth c.in_ok-join.field-0 old.pending.items now.pending.items old.parts now.parts c.in_ok-join.ensures
    (omega (arith, some, now.pending.ok.0)))
