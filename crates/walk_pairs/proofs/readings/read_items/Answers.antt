use Rattle.std.proofs.Common.{◌≡◌, suc, ◌+◌, subst, ap, ◌∙◌, sym, arith}
use Rattle.std.proofs.lemmas.Bool.{false≢true}
use Rattle.weighted_automata.specs.declared.place.Place.{Place}
use Rattle.walk_pairs.specs.declared.pairs.Stage.TheVariants.{Before}
use Rattle.walk_pairs.specs.Pairs.{pair_place, answer_place}
use Rattle.walk_pairs.specs.private.Steps.{IsLoweredWhere}
use Rattle.walk_pairs.proofs.ReadLemmas.{before_given, no_before_given, second_first, third_first, fourth_first}
use Rattle.walk_pairs.proofs.readings.read_items.Goals as goal

pub overflow_add-k : goal.overflow_add-k
overflow_add-k g c = let few = c.are_within.ensures.few c.if-not-are_within.false in let low = few.0 in omega (arith, low)

pub overflow_add-l : goal.overflow_add-l
overflow_add-l g c = let few = c.are_within.ensures.few c.if-not-are_within.false in let low = few.1 in omega (arith, low)

pub returns-then-not-are_within : goal.returns-then-not-are_within
returns-then-not-are_within g c =
    let a = c.args in
    let v = a.tables.now in
    no_before_given (g.S.Semiring.laws v.system.semiring) v v v v v c.valid.ensures.tables a.one.now.items a.other.now.items a.stage a.k a.l
    (λ low low'. false≢true (sym c.if-not-are_within.true ∙ c.are_within.ensures.no low low'))

pub returns : goal.returns
returns g c =
    let a = c.args in
    let v = a.tables.now in
    let operations = g.S.Semiring.operations in
    let s = operations v.system.semiring in
    let v1 = c.lower_where.new.tables in
    let v2 = c.lower_where-2.new.tables in
    let v3 = c.lower_where-3.new.tables in
    let v4 = c.lower_where-4.new.tables in
    let x1 : Place = pair_place Before (suc a.k) a.l in
    let x2 : Place = pair_place Before a.k (suc a.l) in
    let x3 : Place = pair_place a.stage (suc a.k) (suc a.l) in
    let b = c.is_skipped-skips.result in
    let b' = c.is_skipped-skips_other.result in
    let reads = c.both_read-reads.result in
    let ends = c.are_behind-ends.result in
    let k-is : a.k + 1 ≡ suc a.k = omega arith in
    let l-is : a.l + 1 ≡ suc a.l = omega arith in
    let one = subst (λ x. IsLoweredWhere s b x v v1) (c.before-2.ensures ∙ ap (λ q. pair_place Before q a.l) k-is) c.in_ok-lower_where.ensures in
    let two = subst (λ x. IsLoweredWhere (operations v1.system.semiring) b' x v1 v2) (c.before-3.ensures ∙ ap (pair_place Before a.k) l-is) c.in_ok-lower_where-2.ensures in
    let three = subst (λ x. IsLoweredWhere (operations v2.system.semiring) reads x v2 v3) (c.pair_place.ensures ∙ ap (λ q. pair_place a.stage q (a.l + 1)) k-is ∙ ap (pair_place a.stage (suc a.k)) l-is) c.in_ok-lower_where-3.ensures in
    let four = subst (λ x. IsLoweredWhere (operations v3.system.semiring) ends x v3 v4) c.answer_place.ensures c.in_ok-lower_where-4.ensures in
    before_given (g.S.Semiring.laws v.system.semiring) v v1 v2 v3 v4 c.valid.ensures.tables a.one.now.items a.other.now.items a.stage a.k a.l b b' reads ends c.is_skipped-skips.ensures c.is_skipped-skips_other.ensures c.both_read-reads.ensures
    c.are_behind-ends.ensures.yes c.are_behind-ends.ensures.no one
    (second_first operations v v1 v2 v3 v4 b b' reads ends x1 x2 x3 answer_place one two three four)
    (third_first operations v v1 v2 v3 v4 b b' reads ends x1 x2 x3 answer_place one two three four)
    (fourth_first operations v v1 v2 v3 v4 b b' reads ends x1 x2 x3 answer_place one two three four)
