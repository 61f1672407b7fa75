use Rattle.std.proofs.Common.{◌≡◌, ℕ, suc, ◌+◌, true, false, subst, ap, ◌∙◌, sym, arith}
use Rattle.std.proofs.lemmas.Bool.{false≢true}
use Rattle.walk_pairs.specs.declared.pairs.Stage.TheVariants.{Above}
use Rattle.walk_pairs.specs.Pairs.{pair_place}
use Rattle.walk_pairs.specs.private.Steps.{IsLoweredWhere}
use Rattle.walk_pairs.proofs.ReadLemmas.{skip_given, no_skip_given}
use Rattle.walk_pairs.proofs.readings.skip_item.Goals as goal

pub overflow_add-k : goal.overflow_add-k
overflow_add-k g c = let few = c.is_within.ensures.few c.if-not-is_within.false in omega (arith, few)

pub returns-then-not-is_within : goal.returns-then-not-is_within
returns-then-not-is_within g c =
    let a = c.args in
    let v = a.tables.now in
    no_skip_given (g.S.Semiring.laws v.system.semiring) v v v c.valid.ensures.tables a.one.now.items a.k a.to (λ low. false≢true (sym c.if-not-is_within.true ∙ c.is_within.ensures.no low))

pub returns : goal.returns
returns g c =
    let a = c.args in
    let v = a.tables.now in
    let s = g.S.Semiring.operations v.system.semiring in
    let b = c.is_skipped-skips.result in
    let k-is : a.k + 1 ≡ suc a.k = omega arith in
    let one = subst (λ x. IsLoweredWhere s b x v c.lower_where.new.tables) (c.above.ensures ∙ ap (λ q. pair_place Above q a.to) k-is) c.in_ok-lower_where.ensures in
    skip_given (g.S.Semiring.laws v.system.semiring) v c.lower_where.new.tables c.lower_where.new.tables c.valid.ensures.tables a.one.now.items a.k a.to b c.is_skipped-skips.ensures one
