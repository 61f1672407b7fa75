use Rattle.std.proofs.Common.{◌≡◌, ℕ, [], ◌∷◌, ◌++◌, Err, Ok, sym, subst, ◌∙◌, arith}
use Rattle.std.specs.Prelude.{Result}
use Rattle.std.proofs.lemmas.List.{nil_from_length}
use Rattle.std.proofs.lemmas.Result.{err_from_is_err_and}
use Rattle.truth_tables.specs.Grammar.{table_of}
use Rattle.truth_tables.specs.private.Kept.{IsMade, IsJoining}
use Rattle.truth_tables.specs.declared.part.Part.TheVariants.{Two as TwoPart}
use Rattle.truth_tables.specs.declared.stop.Stop.{Stop}
use Rattle.truth_tables.proofs.KeptLemmas.{IsOther, not_more, not_stops, operator_more, operator_stops, operator_less, other_stays, empty_stays}
use Rattle.truth_tables.proofs.reader.Reader.join.Goals as goal

pub returns-in_err-joined-in-Not : goal.returns-in_err-joined-in-Not
returns-in_err-joined-in-Not c =
    let old = c.args.self.now in
    let now = c.loop-top.self in
    let rest = c.pop.new.self.items in
    let top = subst (λ p. now.pending.items ≡ rest ++ p ∷ []) c.in-Not.is c.in-Some.ensures.items in
    let p = err_from_is_err_and c.from_residual.result c.from_residual.ensures.1 in
    let s = c.in_err-joined-in-Not.field-0.0 in
    let same : c.from_residual.result ≡ Err s = cc (p.1, p.2) in
    subst (λ (r : Result ℕ Stop). IsJoining c.args.limit c.args.level old.pending.items old.parts c.args.operand r rest c.put.new.parts) (sym same)
    (not_stops c.args.limit c.args.level old.pending.items old.parts c.args.operand now.pending.items rest now.parts c.loop-top.joined c.loop-top.invariant
    s rest c.put.new.parts c.put.new.parts top c.in_err-joined-in-Not.ensures)

pub loop-top-preserved-in-Not : goal.loop-top-preserved-in-Not
loop-top-preserved-in-Not c =
    let old = c.args.self.now in
    let now = c.loop-top.self in
    let rest = c.pop.new.self.items in
    let top = subst (λ p. now.pending.items ≡ rest ++ p ∷ []) c.in-Not.is c.in-Some.ensures.items in
    not_more c.args.limit c.args.level old.pending.items old.parts c.args.operand now.pending.items rest now.parts c.loop-top.joined c.loop-top.invariant
    c.in_ok-joined-in-Not.joined c.put.new.parts top c.in_ok-joined-in-Not.ensures

pub returns-then-level : goal.returns-then-level
returns-then-level c =
    let old = c.args.self.now in
    let now = c.loop-top.self in
    let rest = c.pop.new.self.items in
    let top = subst (λ p. now.pending.items ≡ rest ++ p ∷ []) c.in-Operator.is c.in-Some.ensures.items in
    operator_less c.args.limit c.args.level old.pending.items old.parts c.args.operand now.pending.items rest now.parts c.loop-top.joined c.loop-top.invariant
    c.in-Operator.operator c.in-Operator.left c.push.new.self.items top c.in_ok-push-in-Operator.ensures.items (omega (arith, c.level.ensures, c.if-level.true))

pub returns-in_err-joined-in-Operator : goal.returns-in_err-joined-in-Operator
returns-in_err-joined-in-Operator c =
    let old = c.args.self.now in
    let now = c.loop-top.self in
    let rest = c.pop.new.self.items in
    let put = c.put-in-Operator.new.parts in
    let result = c.from_residual-in_err-joined-in-Operator.result in
    let top = subst (λ p. now.pending.items ≡ rest ++ p ∷ []) c.in-Operator.is c.in-Some.ensures.items in
    let p = err_from_is_err_and result c.from_residual-in_err-joined-in-Operator.ensures.1 in
    let s = c.in_err-joined-in-Operator.field-0.0 in
    let same : result ≡ Err s = cc (p.1, p.2) in
    let made =
    subst (λ x. IsMade c.args.limit x (TwoPart (table_of c.in-Operator.operator)) now.parts (Err s) put) c.max.ensures
    (subst (λ x. IsMade c.args.limit c.max.result (TwoPart x) now.parts (Err s) put) c.table.ensures c.in_err-joined-in-Operator.ensures)
    in
    subst (λ (r : Result ℕ Stop). IsJoining c.args.limit c.args.level old.pending.items old.parts c.args.operand r rest put) (sym same)
    (operator_stops c.args.limit c.args.level old.pending.items old.parts c.args.operand now.pending.items rest now.parts c.loop-top.joined c.loop-top.invariant
    s c.in-Operator.operator c.in-Operator.left rest put put top made)

pub loop-top-preserved : goal.loop-top-preserved
loop-top-preserved c =
    let old = c.args.self.now in
    let now = c.loop-top.self in
    let rest = c.pop.new.self.items in
    let put = c.put-in-Operator.new.parts in
    let more = c.in_ok-joined-in-Operator.joined in
    let top = subst (λ p. now.pending.items ≡ rest ++ p ∷ []) c.in-Operator.is c.in-Some.ensures.items in
    let made =
    subst (λ x. IsMade c.args.limit x (TwoPart (table_of c.in-Operator.operator)) now.parts (Ok more) put) c.max.ensures
    (subst (λ x. IsMade c.args.limit c.max.result (TwoPart x) now.parts (Ok more) put) c.table.ensures c.in_ok-joined-in-Operator.ensures)
    in
    operator_more c.args.limit c.args.level old.pending.items old.parts c.args.operand now.pending.items rest now.parts c.loop-top.joined c.loop-top.invariant
    c.in-Operator.operator c.in-Operator.left more put top (omega (arith, c.level.ensures, c.if-level.false)) made

pub returns-in_default-top : goal.returns-in_default-top
returns-in_default-top c =
    let old = c.args.self.now in
    let now = c.loop-top.self in
    let rest = c.pop.new.self.items in
    let other : IsOther c.in_default-top.other = grind arith in
    let top = subst (λ p. now.pending.items ≡ rest ++ p ∷ []) c.in_default-top.other-is c.in-Some.ensures.items in
    let last = subst (λ p. c.push-in_default-top.new.self.items ≡ rest ++ p ∷ []) c.in_default-top.other-is c.in_ok-push-in_default-top.ensures.items in
    other_stays c.args.limit c.args.level old.pending.items old.parts c.args.operand now.pending.items rest now.parts c.loop-top.joined c.loop-top.invariant
    c.in_default-top.other c.push-in_default-top.new.self.items top last other

pub returns : goal.returns
returns c =
    let old = c.args.self.now in
    let now = c.loop-top.self in
    let cases = c.in_default.ensures.cases in
    let none = nil_from_length now.pending.items (sym now.pending.ok.0 ∙ cases.0) in
    let left = nil_from_length c.pop.new.self.items (sym c.pop.new.self.ok.0 ∙ cases.1) in
    empty_stays c.args.limit c.args.level old.pending.items old.parts c.args.operand now.pending.items c.pop.new.self.items now.parts c.loop-top.joined c.loop-top.invariant none left
