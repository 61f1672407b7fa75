use Rattle.std.proofs.Common.{◌<◌, length, sym, ap, ◌∙◌, subst}
use Rattle.std.specs.Prelude.{Some}
use Rattle.std.proofs.lemmas.Option.{same_Some}
use Rattle.pushdown_rules.specs.Rows.{goes_onto, next_onto}
use Rattle.pushdown_rules.specs.Pushdown.{Pushdown}
use Rattle.pushdown_rules.proofs.CallerLemmas.{onto_goes_on}
use Rattle.weight_tables.specs.Entries.{TableEntry}
use Rattle.weight_tables.specs.Tables.{TablesValue}
use Rattle.walk_pairs.specs.declared.pairs.Stage.TheVariants.{Above}
use Rattle.walk_pairs.specs.Pairs.{pair_place}
use Rattle.forward_value_search.specs.Search.{Enters}
use Rattle.forward_value_walk.proofs.GoingLemmas.{walkable_of, within_of, gone_stands}
use Rattle.forward_value_walk.proofs.LoopLemmas.{calls_entered, calls_start, calls_at, calls_within, calls_walkable, calls_go_on, calls_end, calls_smaller}
use Rattle.forward_value_walk.proofs.calls.open_onto.Goals as goal

pub rules-init : goal.rules-init
rules-init g c =
    let a = c.args in
    let walkable = walkable_of g.S.Semiring.operations a.first.now a.wanted.now a.tables.now c.valid.ensures.system c.valid.ensures.tables c.requires.finished c.requires.made in
    calls_start g.S.Semiring.operations (λ x. g.S.Semiring.laws x) a.first.now a.wanted.now a.tables.now a.item a.source (goes_onto a.callee.to a.callee.top) walkable (Some a.callee.rule) c.requires.rule

pub open_rule-requires : goal.open_rule-requires
open_rule-requires g c =
    let a = c.args in
    let v = a.tables.now in
    let now = c.rules.tables in
    let loop = c.rules.invariant in
    let k = c.in-Some.k in
    let walkable = walkable_of g.S.Semiring.operations a.first.now a.wanted.now v c.valid.ensures.system c.valid.ensures.tables c.requires.finished c.requires.made in
    let test = goes_onto a.callee.to a.callee.top in
    let found = calls_at g.S.Semiring.operations (λ x. g.S.Semiring.laws x) a.first.now a.wanted.now v a.item a.source test walkable now c.rules.at loop k c.in-Some.is in
    let low = calls_within g.S.Semiring.operations (λ x. g.S.Semiring.laws x) a.first.now a.wanted.now v a.item a.source test walkable now c.rules.at loop k c.in-Some.is in
    let x = pair_place Above a.item a.source in
    let stands = gone_stands g.S.Semiring.operations (λ x. g.S.Semiring.laws x) a.first.now a.wanted.now v now walkable loop.gone a.t x c.requires.entry in
    let L : TablesValue g.row.S.Denot g.row.S-W.Denot g.row.S-Ret.Denot → Type 0 = λ u. k < length u.system.rules in
    let E : TablesValue g.row.S.Denot g.row.S-W.Denot g.row.S-Ret.Denot → Type 0 = λ u. Enters g.S.Semiring.operations u.system a.first.now k a.source in
    record {
      rule = subst L (sym loop.gone.others) low;
      entry = within_of a.t x now.walk stands;
      place = λ e there. ap (λ (d : TableEntry g.row.S-W.Denot). d.place) (same_Some e stands.0 (sym there ∙ stands.1)) ∙ stands.2;
      made = (calls_walkable g.S.Semiring.operations (λ x. g.S.Semiring.laws x) a.first.now a.wanted.now v a.item a.source test walkable now c.rules.at loop).made x;
      number = subst E (sym loop.gone.others) (calls_entered g.S.Semiring.operations v.system a.first.now a.callee.to a.callee.top a.callee.rule a.source c.requires.number c.requires.rule k found.item found.there found.passes);
    }

pub rules-preserved : goal.rules-preserved
rules-preserved g c =
    let a = c.args in
    let v = a.tables.now in
    let now = c.rules.tables in
    let loop = c.rules.invariant in
    let k = c.in-Some.k in
    let walkable = walkable_of g.S.Semiring.operations a.first.now a.wanted.now v c.valid.ensures.system c.valid.ensures.tables c.requires.finished c.requires.made in
    let test = goes_onto a.callee.to a.callee.top in
    let found = calls_at g.S.Semiring.operations (λ x. g.S.Semiring.laws x) a.first.now a.wanted.now v a.item a.source test walkable now c.rules.at loop k c.in-Some.is in
    let next = c.next_onto-at.ensures ∙ ap (λ (p : Pushdown g.row.S.Denot g.row.S-W.Denot g.row.S-Ret.Denot). next_onto k p.rules) c.system-system.ensures.value in
    calls_go_on g.S.Semiring.operations (λ x. g.S.Semiring.laws x) a.first.now a.wanted.now v a.item a.source test walkable now c.rules.at loop k c.in-Some.is c.open_rule.new.tables c.in_ok-open_rule.ensures c.next_onto-at.result
    (next ∙ onto_goes_on v.system.rules k found.item found.there a.callee.to a.callee.top found.passes)

pub rules-smaller : goal.rules-smaller
rules-smaller g c =
    let a = c.args in
    let v = a.tables.now in
    let now = c.rules.tables in
    let loop = c.rules.invariant in
    let k = c.in-Some.k in
    let walkable = walkable_of g.S.Semiring.operations a.first.now a.wanted.now v c.valid.ensures.system c.valid.ensures.tables c.requires.finished c.requires.made in
    let test = goes_onto a.callee.to a.callee.top in
    let found = calls_at g.S.Semiring.operations (λ x. g.S.Semiring.laws x) a.first.now a.wanted.now v a.item a.source test walkable now c.rules.at loop k c.in-Some.is in
    let next = c.next_onto-at.ensures ∙ ap (λ (p : Pushdown g.row.S.Denot g.row.S-W.Denot g.row.S-Ret.Denot). next_onto k p.rules) c.system-system.ensures.value in
    calls_smaller g.S.Semiring.operations (λ x. g.S.Semiring.laws x) a.first.now a.wanted.now v a.item a.source test walkable now c.rules.at loop k c.in-Some.is c.next_onto-at.result
    (next ∙ onto_goes_on v.system.rules k found.item found.there a.callee.to a.callee.top found.passes)

pub returns : goal.returns
returns g c =
    let a = c.args in
    let v = a.tables.now in
    let walkable = walkable_of g.S.Semiring.operations a.first.now a.wanted.now v c.valid.ensures.system c.valid.ensures.tables c.requires.finished c.requires.made in
    record {
      gone = c.rules.invariant.gone;
      met = calls_end g.S.Semiring.operations (λ x. g.S.Semiring.laws x) a.first.now a.wanted.now v a.item a.source (goes_onto a.callee.to a.callee.top) walkable c.rules.tables c.rules.at c.rules.invariant c.in_default.is;
    }
