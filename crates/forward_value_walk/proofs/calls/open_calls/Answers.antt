use Rattle.std.proofs.Common.{◌≡◌, ℕ, [], ◌∷◌, length, sym, ap, ◌∙◌, subst}
use Rattle.std.specs.Prelude.{Option, None, Some, IfNone}
use Rattle.key_rows.specs.Rows.{index_where}
use Rattle.pushdown_rules.specs.Pushdown.{Pushdown}
use Rattle.pushdown_rules.specs.Rows.{goes_onto}
use Rattle.forward_value_laws.specs.Model.{callee}
use Rattle.forward_value_search.specs.declared.callees.Callee.{Callee}
use Rattle.forward_value_search.specs.Places.{number_of}
use Rattle.forward_value_search.proofs.CallerLemmas.{goes_there}
use Rattle.forward_value_walk.proofs.GoingLemmas.{none_gone}
use Rattle.forward_value_walk.proofs.calls.open_calls.Goals as goal

none_of : (o : Option Callee) (P : Type 0) → o ≡ None → IfNone o P → P
none_of o P none holds = let Q : Option Callee → Type 0 = λ x. IfNone x P in subst Q none holds

pub returns-in_default : goal.returns-in_default
returns-in_default g c =
    let a = c.args in
    let v = a.tables.now in
    let p = c.system.result.now in
    let none = none_of c.callee_at.result ((to g' : ℕ) → number_of c.items.result p (callee to g') ≡ Some a.source → ⊥) c.in_default.is c.callee_at.ensures.none in
    record {
      gone = none_gone g.S.Semiring.operations (λ x. g.S.Semiring.laws x) a.first.now a.wanted.now v;
      met = λ k r there g' h right entered.
          let P : ℕ → Type 0 = λ n. number_of n p (callee r.to g') ≡ Some a.source in
          let Q : Pushdown g.row.S.Denot g.row.S-W.Denot g.row.S-Ret.Denot → Type 0 = λ q. number_of (length a.first.now.items) q (callee r.to g') ≡ Some a.source in
          absurd (none r.to g' (subst P (sym c.items.ensures.value) (subst Q (sym c.system.ensures.value) entered)));
    }

pub open_onto-requires-clause-number : goal.open_onto-requires-clause-number
open_onto-requires-clause-number g c =
    let a = c.args in
    let one = c.in-Some.callee in
    let P : ℕ → Type 0 = λ n. number_of n c.system.result.now (callee one.to one.top) ≡ Some a.source in
    let Q : Pushdown g.row.S.Denot g.row.S-W.Denot g.row.S-Ret.Denot → Type 0 = λ q. number_of (length a.first.now.items) q (callee one.to one.top) ≡ Some a.source in
    subst Q c.system.ensures.value (subst P c.items.ensures.value c.in-Some.ensures.number)

pub open_onto-requires-clause-rule : goal.open_onto-requires-clause-rule
open_onto-requires-clause-rule g c =
    let one = c.in-Some.callee in
    c.in-Some.ensures.rule ∙ ap (λ (q : Pushdown g.row.S.Denot g.row.S-W.Denot g.row.S-Ret.Denot). index_where (goes_onto one.to one.top) q.rules) c.system.ensures.value

pub returns : goal.returns
returns g c =
    let a = c.args in
    let v = a.tables.now in
    let one = c.in-Some.callee in
    let P : ℕ → Type 0 = λ n. number_of n c.system.result.now (callee one.to one.top) ≡ Some a.source in
    let Q : Pushdown g.row.S.Denot g.row.S-W.Denot g.row.S-Ret.Denot → Type 0 = λ q. number_of (length a.first.now.items) q (callee one.to one.top) ≡ Some a.source in
    let number = subst Q c.system.ensures.value (subst P c.items.ensures.value c.in-Some.ensures.number) in
    record {
      gone = c.in_ok-open_onto.ensures.gone;
      met = λ k r there g' h right entered. c.in_ok-open_onto.ensures.met k r there (goes_there (length a.first.now.items) v.system one.to one.top a.source number r g' (h ∷ []) right entered);
    }
