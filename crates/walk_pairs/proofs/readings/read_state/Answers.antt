use Rattle.std.proofs.Common.{◌≡◌, ℕ, true, false, subst, ◌∙◌, sym}
use Rattle.std.proofs.lemmas.Bool.{false≢true}
use Rattle.weighted_automata.specs.declared.place.Place.{Place}
use Rattle.walk_pairs.specs.declared.pairs.Stage.TheVariants.{Above}
use Rattle.walk_pairs.specs.Pairs.{pair_place}
use Rattle.walk_pairs.specs.private.Steps.{IsLoweredWhere}
use Rattle.walk_pairs.proofs.ReadLemmas.{state_given, no_state_given, nothing_lowered, second_first}
use Rattle.walk_pairs.proofs.readings.read_state.Goals as goal

pub returns-then-not-is_within : goal.returns-then-not-is_within
returns-then-not-is_within g c =
    let a = c.args in
    let v = a.tables.now in
    no_state_given (g.S.Semiring.laws v.system.semiring) v v v c.valid.ensures.tables a.one.now.items a.state a.to (λ low. false≢true (sym c.if-not-is_within.true ∙ c.is_within.ensures.no low))

pub returns : goal.returns
returns g c =
    let a = c.args in
    let v = a.tables.now in
    let operations = g.S.Semiring.operations in
    let s = operations v.system.semiring in
    let v1 = c.lower_where.new.tables in
    let v2 = c.lower_where-2.new.tables in
    let k : ℕ = c.saturating_sub-item.result in
    let x1 : Place = pair_place Above a.state a.to in
    let x2 : Place = pair_place Above k a.to in
    let b = c.stays_at-again.result in
    let one = subst (λ x. IsLoweredWhere s true x v v1) c.above.ensures c.in_ok-lower_where.ensures in
    let two = subst (λ x. IsLoweredWhere (operations v1.system.semiring) b x v1 v2) c.above-2.ensures c.in_ok-lower_where-2.ensures in
    let none = nothing_lowered (operations v2.system.semiring) x2 v2 in
    state_given (g.S.Semiring.laws v.system.semiring) v v1 v2 c.valid.ensures.tables a.one.now.items a.state a.to (c.is_within.ensures.yes c.if-not-is_within.false) b c.stays_at-again.ensures k c.saturating_sub-item.ensures one
    (second_first operations v v1 v2 v2 v2 true b false false x1 x2 x2 x2 one two none none)
