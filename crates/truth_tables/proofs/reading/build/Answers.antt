use Rattle.std.proofs.Common.{◌≡◌, Err, Ok, sym, subst, ℕ, List}
use Rattle.std.specs.Prelude.{Result}
use Rattle.std.proofs.lemmas.Result.{err_from_is_err_and}
use Rattle.wpds_port.specs.Words.{word_of}
use Rattle.truth_tables.specs.Formulas.{Formula}
use Rattle.truth_tables.specs.private.Kept.{IsBuilding, IsNextPlace}
use Rattle.truth_tables.specs.declared.stop.Stop.{Stop}
use Rattle.truth_tables.proofs.BuildLemmas.{at_first, word_more, word_stops}
use Rattle.truth_tables.proofs.reading.build.Goals as goal

pub loop-lexeme-init : goal.loop-lexeme-init
loop-lexeme-init c =
    let reader = c.new-reader.result in
    at_first c.args.limit c.args.words reader.pending.items reader.parts c.new-reader.ensures.«open» c.new-reader.ensures.built

pub returns-in_err-position : goal.returns-in_err-position
returns-in_err-position c =
    let at = c.loop-lexeme in
    let now = c.step.new.self in
    let p = err_from_is_err_and c.from_residual.result c.from_residual.ensures.1 in
    let s = c.in_err-position.field-0.0 in
    let same : c.from_residual.result ≡ Err s = cc (p.1, p.2) in
    subst (λ (r : Result (List (Formula ℕ)) Stop). IsBuilding c.args.limit c.args.words r) (sym same)
    (word_stops c.args.limit c.args.words at.position at.place at.left c.in-Some.rest (word_of c.in-Some.lexeme) at.reader.pending.items now.pending.items at.reader.parts now.parts at.invariant c.in-Some.ensures
    s c.in_err-position.ensures)

pub loop-lexeme-preserved : goal.loop-lexeme-preserved
loop-lexeme-preserved c =
    let at = c.loop-lexeme in
    let now = c.step.new.self in
    let next = c.in_ok-place.place in
    let place = subst (λ b. IsNextPlace at.place b (Ok next)) c.is_variable.ensures c.in_ok-place.ensures in
    word_more c.args.limit c.args.words at.position at.place at.left c.in-Some.rest (word_of c.in-Some.lexeme) at.reader.pending.items now.pending.items at.reader.parts now.parts at.invariant c.in-Some.ensures
    c.in_ok-position.position next c.in_ok-position.ensures place
