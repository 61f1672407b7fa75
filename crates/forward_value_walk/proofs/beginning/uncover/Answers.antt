use Rattle.std.proofs.Common.{◌≡◌, ℕ, sym, ap, ◌∙◌, subst}
use Rattle.std.specs.Prelude.{None, Some}
use Rattle.weighted_automata.specs.declared.place.Label.TheVariants.{Empty}
use Rattle.weighted_automata.specs.declared.place.Place.{Place}
use Rattle.weight_tables.specs.Entries.{index_at, lowered_in}
use Rattle.weight_tables.specs.Tables.{TablesValue, with_entries}
use Rattle.weight_tables.specs.declared.layer.Layer.TheVariants.{Walk}
use Rattle.weight_tables.proofs.CallerLemmas.{none_weight, weight_at_index}
use Rattle.walk_pairs.specs.declared.pairs.Stage.TheVariants.{Down}
use Rattle.walk_pairs.specs.Pairs.{pair_place}
use Rattle.forward_value_search.specs.Places.{arrow}
use Rattle.forward_value_walk.proofs.OpeningLemmas.{entry_at}
use Rattle.forward_value_walk.proofs.GoingLemmas.{none_gone}
use Rattle.forward_value_walk.proofs.BeginLemmas.{none_uncovered, uncovered_gone, uncovered_met}
use Rattle.forward_value_walk.proofs.beginning.uncover.Goals as goal

pub returns-in_default : goal.returns-in_default
returns-in_default g c =
    let a = c.args in
    let v = a.tables.now in
    let s = g.S.Semiring.operations v.system.semiring in
    let P : ℕ → Type 0 = λ n. index_at (arrow n Empty a.item) v.base ≡ None in
    let none : index_at (arrow a.wanted.now.control Empty a.item) v.base ≡ None = subst P c.control.ensures.value (sym c.find.ensures.number ∙ c.in_default.is) in
    record {
      gone = none_gone g.S.Semiring.operations (λ x. g.S.Semiring.laws x) a.first.now a.wanted.now v;
      met = none_uncovered g.S.Semiring.operations (λ x. g.S.Semiring.laws x) a.first.now a.wanted.now v c.valid.ensures.tables a.item (none_weight s (arrow a.wanted.now.control Empty a.item) v.base none);
    }

pub returns : goal.returns
returns g c =
    let a = c.args in
    let v = a.tables.now in
    let s = g.S.Semiring.operations v.system.semiring in
    let t = c.in-Some.t in
    let entry = entry_at v.base t c.in-Some.ensures.within in
    let e = entry.0 in
    let P : ℕ → Type 0 = λ n. index_at (arrow n Empty a.item) v.base ≡ Some t in
    let found : index_at (arrow a.wanted.now.control Empty a.item) v.base ≡ Some t = subst P c.control.ensures.value (sym c.find.ensures.number ∙ c.in-Some.is) in
    let weight = (weight_at_index s (arrow a.wanted.now.control Empty a.item) v.base t e found entry.1).0 in
    let x0 : Place = pair_place Down 0 a.item in
    let F = λ (x : Place) (u : TablesValue g.row.S.Denot g.row.S-W.Denot g.row.S-Ret.Denot). with_entries Walk (lowered_in (g.S.Semiring.operations u.system.semiring) x u.hand u.walk) u in
    let made = c.in_ok-lower.ensures.ok ∙ ap (λ (x : Place). F x c.hold.new.self) c.pair_place.ensures ∙ ap (F x0) (c.in_ok-hold.ensures.ok e entry.1) in
    record {
      gone = uncovered_gone g.S.Semiring.operations (λ x. g.S.Semiring.laws x) a.first.now a.wanted.now v c.valid.ensures.system c.valid.ensures.tables c.requires.finished a.item c.requires.item e weight c.lower.new.self made;
      met = uncovered_met g.S.Semiring.operations (λ x. g.S.Semiring.laws x) a.first.now a.wanted.now v c.valid.ensures.system c.valid.ensures.tables c.requires.finished a.item c.requires.item e weight c.lower.new.self made;
    }
