use Rattle.std.proofs.Common.{◌≡◌, ℕ, suc, ◌+◌, [], ◌∷◌, get_or, sym, ap, ◌∙◌, subst, arith}
use Rattle.std.specs.Prelude.{Some, slice_get}
use Rattle.std.proofs.lemmas.Bool.{false≢true}
use Rattle.pushdown_rules.specs.Pushdown.{Pushdown}
use Rattle.weight_tables.specs.Tables.{TablesValue, AreTables}
use Rattle.weight_tables.specs.declared.layer.Layer.TheVariants.{Base}
use Rattle.walk_pairs.specs.declared.pairs.Order.TheVariants.{After}
use Rattle.walk_pairs.specs.declared.pairs.Stage.TheVariants.{Down}
use Rattle.walk_pairs.specs.Giving.{AreFallsOnGiven}
use Rattle.forward_value_walk.proofs.OpeningLemmas.{entry_at, two_of, rule_opened, none_opened}
use Rattle.forward_value_walk.proofs.opening.open_rule.Goals as goal

pub returns-in_ok-fall_row-in-len2 : goal.returns-in_ok-fall_row-in-len2
returns-in_ok-fall_row-in-len2 g c =
    let a = c.args in
    let v = a.tables.now in
    let law = g.S.Semiring.laws v.system.semiring in
    let r = c.rule-rule.result.now in
    let xs = c.as_slice.result.now in
    let there : slice_get v.system.rules a.k ≡ Some r = ap (λ (q : Pushdown g.row.S.Denot g.row.S-W.Denot g.row.S-Ret.Denot). slice_get q.rules a.k) (sym c.system.ensures.value) ∙ c.rule-rule.ensures.rule in
    let right : r.right ≡ get_or xs 0 0 ∷ get_or xs 1 0 ∷ [] = sym c.as_slice.ensures ∙ two_of xs c.in-len2.len_at_least c.in-len2.len_below in
    let entry = entry_at v.walk a.t c.requires.entry in
    let e = entry.0 in
    let hand = c.in_ok-hold_rule_then-in-len2.ensures.ok r there e entry.1 in
    let V : TablesValue g.row.S.Denot g.row.S-W.Denot g.row.S-Ret.Denot → Type 0 = λ u. AreTables (g.S.Semiring.operations u.system.semiring) u in
    let G : TablesValue g.row.S.Denot g.row.S-W.Denot g.row.S-Ret.Denot → Type 0 =
    λ u. AreFallsOnGiven (g.S.Semiring.operations u.system.semiring) u After Base Down r.control (λ b. b ≡ r.symbol) (suc a.item) c.fall_row.new.tables in
    let N : ℕ → Type 0 = λ n. AreFallsOnGiven (g.S.Semiring.operations c.hold_rule_then.new.self.system.semiring) c.hold_rule_then.new.self After Base Down r.control (λ b. b ≡ r.symbol) n c.fall_row.new.tables in
    let next : a.item + 1 ≡ suc a.item = omega arith in
    rule_opened v c.valid.ensures.system law c.valid.ensures.tables a.first.now a.wanted.now a.item a.source a.k a.t r there (get_or xs 0 0) (get_or xs 1 0) right
    (c.requires.number r there (get_or xs 0 0) (get_or xs 1 0) right) e entry.1 (c.requires.place e entry.1) c.requires.made
    (subst V hand c.valid-in-len2.ensures.tables) (c.takes.ensures.meaning.0 c.if-not-takes.false) c.fall_row.new.tables (subst G hand (subst N next c.in_ok-fall_row-in-len2.ensures))

pub returns-then-not-takes : goal.returns-then-not-takes
returns-then-not-takes g c =
    let a = c.args in
    let v = a.tables.now in
    let law = g.S.Semiring.laws v.system.semiring in
    let r = c.rule-rule.result.now in
    let xs = c.as_slice.result.now in
    let there : slice_get v.system.rules a.k ≡ Some r = ap (λ (q : Pushdown g.row.S.Denot g.row.S-W.Denot g.row.S-Ret.Denot). slice_get q.rules a.k) (sym c.system.ensures.value) ∙ c.rule-rule.ensures.rule in
    let right : r.right ≡ get_or xs 0 0 ∷ get_or xs 1 0 ∷ [] = sym c.as_slice.ensures ∙ two_of xs c.in-len2.len_at_least c.in-len2.len_below in
    none_opened v c.valid.ensures.system law c.valid.ensures.tables a.first.now a.wanted.now a.item a.source a.k a.t r there (get_or xs 0 0) (get_or xs 1 0) right
    (λ takes. false≢true (sym c.if-not-takes.true ∙ c.takes.ensures.meaning.1 takes))
