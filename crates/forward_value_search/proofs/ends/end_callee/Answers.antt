use Rattle.std.proofs.Common.{◌≡◌, ◌∙◌, ℕ, ◌+◌, [], ◌∷◌, length, sym, ap, subst}
use Rattle.std.specs.Prelude.{Option, None, Some, IfNone, option_map}
use Rattle.std.proofs.lemmas.Option.{same_Some}
use Rattle.forward_value_laws.specs.Model.{callee}
use Rattle.forward_value_search.specs.declared.callees.Callee.{Callee}
use Rattle.forward_value_search.specs.Places.{number_of}
use Rattle.forward_value_search.proofs.OnwardLemmas.{onward_itself}
use Rattle.forward_value_search.proofs.NumberLemmas.{goes_there}
use Rattle.forward_value_search.proofs.GiveLemmas.{end_gives}
use Rattle.forward_value_search.proofs.ends.end_callee.Goals as goal

none_of : (o : Option Callee) (P : Type 0) → o ≡ None → IfNone o P → P
none_of o P none holds = let Q : Option Callee → Type 0 = λ x. IfNone x P in subst Q none holds

pub returns-in_default-clause-onward : goal.returns-in_default-clause-onward
returns-in_default-clause-onward g c = onward_itself c.semiring-semiring.ensures.valid (g.S.Semiring.laws c.args.system.now.semiring) c.args.first.now c.args.tables.now c.requires.ready

pub returns-in_default-clause-gives : goal.returns-in_default-clause-gives
returns-in_default-clause-gives g c =
    let p = c.args.system.now in
    let none = none_of c.callee_at.result ((to g' : ℕ) → number_of c.items.result p (callee to g') ≡ Some c.args.end.to → ⊥) c.in_default.is c.callee_at.ensures.none in
    end_gives g.S.Semiring.operations p c.args.first.now c.args.tables.now c.args.end c.requires.empty c.requires.behind
    (λ k r there a b right number. let P : ℕ → Type 0 = λ n. number_of n p (callee r.to a) ≡ Some c.args.end.to in absurd (none r.to a (subst P (sym c.items.ensures.value) number)))

pub meet_onto-requires-clause-number : goal.meet_onto-requires-clause-number
meet_onto-requires-clause-number g c =
    let one = c.in-Some.callee in
    let P : ℕ → Type 0 = λ n. number_of n c.args.system.now (callee one.to one.top) ≡ Some c.args.end.to in
    let number = subst P c.items.ensures.value c.in-Some.ensures.number in
    let items = length c.args.first.now.items in
    sym (same_Some (items + 1 + one.rule) c.args.end.to (ap (option_map (λ k. items + 1 + k)) c.in-Some.ensures.rule ∙ number))

pub returns-clause-gives : goal.returns-clause-gives
returns-clause-gives g c =
    let p = c.args.system.now in
    let one = c.in-Some.callee in
    let P : ℕ → Type 0 = λ n. number_of n p (callee one.to one.top) ≡ Some c.args.end.to in
    let number = subst P c.items.ensures.value c.in-Some.ensures.number in
    end_gives g.S.Semiring.operations p c.args.first.now c.meet_onto.new.tables c.args.end c.requires.empty c.requires.behind
    (λ k r there a b right entered. c.in_ok-meet_onto.ensures.met k r there (goes_there (length c.args.first.now.items) p one.to one.top c.args.end.to number r a (b ∷ []) right entered))
