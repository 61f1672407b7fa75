use Rattle.std.proofs.Common.{ℕ, true, subst, ◌∙◌, sym}
use Rattle.std.proofs.lemmas.Bool.{false≢true}
use Rattle.weighted_automata.specs.declared.place.Place.{Place}
use Rattle.walk_pairs.specs.declared.pairs.Stage.TheVariants.{Before}
use Rattle.walk_pairs.specs.Pairs.{pair_place}
use Rattle.walk_pairs.specs.private.Steps.{IsLoweredWhere}
use Rattle.walk_pairs.proofs.ReadLemmas.{pair_given, no_pair_given, second_first, third_first, fourth_first}
use Rattle.walk_pairs.proofs.readings.read_on.Goals as goal

pub returns-then-not-are_within : goal.returns-then-not-are_within
returns-then-not-are_within g c =
    let a = c.args in
    let v = a.tables.now in
    no_pair_given (g.S.Semiring.laws v.system.semiring) v v v v v c.valid.ensures.tables a.one.now.items a.other.now.items a.state a.state_other
    (λ low low'. false≢true (sym c.if-not-are_within.true ∙ c.are_within.ensures.no low low'))

pub returns : goal.returns
returns g c =
    let a = c.args in
    let v = a.tables.now in
    let operations = g.S.Semiring.operations in
    let s = operations v.system.semiring in
    let v1 = c.lower_where.new.tables in
    let v2 = c.lower_where-2.new.tables in
    let v3 = c.lower_where-3.new.tables in
    let v4 = c.lower_where-4.new.tables in
    let k : ℕ = c.saturating_sub-item.result in
    let l : ℕ = c.saturating_sub-item_other.result in
    let x1 : Place = pair_place Before a.state a.state_other in
    let x2 : Place = pair_place Before k a.state_other in
    let x3 : Place = pair_place Before a.state l in
    let x4 : Place = pair_place Before k l in
    let b = c.stays_at-again.result in
    let b' = c.stays_at-again_other.result in
    let both = c.stay_both-both.result in
    let one = subst (λ x. IsLoweredWhere s true x v v1) c.before-2.ensures c.in_ok-lower_where.ensures in
    let two = subst (λ x. IsLoweredWhere (operations v1.system.semiring) b x v1 v2) c.before-3.ensures c.in_ok-lower_where-2.ensures in
    let three = subst (λ x. IsLoweredWhere (operations v2.system.semiring) b' x v2 v3) c.before-4.ensures c.in_ok-lower_where-3.ensures in
    let four = subst (λ x. IsLoweredWhere (operations v3.system.semiring) both x v3 v4) c.before-5.ensures c.in_ok-lower_where-4.ensures in
    let within = c.are_within.ensures.yes c.if-not-are_within.false in
    pair_given (g.S.Semiring.laws v.system.semiring) v v1 v2 v3 v4 c.valid.ensures.tables a.one.now.items a.other.now.items a.state a.state_other within.0 within.1 b b' both c.stays_at-again.ensures c.stays_at-again_other.ensures
    c.stay_both-both.ensures.yes c.stay_both-both.ensures.no k l c.saturating_sub-item.ensures c.saturating_sub-item_other.ensures one
    (second_first operations v v1 v2 v3 v4 true b b' both x1 x2 x3 x4 one two three four)
    (third_first operations v v1 v2 v3 v4 true b b' both x1 x2 x3 x4 one two three four)
    (fourth_first operations v v1 v2 v3 v4 true b b' both x1 x2 x3 x4 one two three four)
