use Rattle.std.proofs.Common.{◌≡◌, ℕ, ◌<◌, length, sym, ap, ◌∙◌, subst}
use Rattle.std.specs.Prelude.{None, Some, slice_get}
use Rattle.pushdown_rules.specs.declared.rule.Rule.{Rule}
use Rattle.pushdown_rules.specs.Pushdown.{Pushdown}
use Rattle.pushdown_rules.specs.Rows.{has_head, next_with_head}
use Rattle.pushdown_rules.proofs.CallerLemmas.{with_head_goes_on}
use Rattle.key_rows.specs.Rows.{index_where}
use Rattle.weighted_automata.specs.declared.place.Label.TheVariants.{Symbol}
use Rattle.weight_tables.specs.Tables.{TablesValue}
use Rattle.forward_value_search.specs.Places.{arrow}
use Rattle.forward_value_search.specs.Search.{StandsAt}
use Rattle.forward_value_search.proofs.CallerLemmas.{head_by}
use Rattle.value_tails.proofs.LinkLemmas.{searched_of, fires_at}
use Rattle.value_tails.proofs.LoopLemmas.{links_start, links_at, links_within, loop_searched, links_go_on, links_end, links_smaller}
use Rattle.value_tails.proofs.links.link_row.Goals as goal

pub rules-init : goal.rules-init
rules-init g c =
    let a = c.args in
    let v = a.tables.now in
    let searched = searched_of g.S.Semiring.operations (λ x. g.S.Semiring.laws x) a.first.now v c.valid.ensures.system c.valid.ensures.tables c.requires.finished in
    links_start g.S.Semiring.operations (λ x. g.S.Semiring.laws x) a.first.now v a.row.to (has_head a.row.from a.symbol) searched c.first_with_head-at.result
    (c.first_with_head-at.ensures ∙ ap (λ (p : Pushdown g.row.S.Denot g.row.S-W.Denot g.row.S-Ret.Denot). index_where (has_head a.row.from a.symbol) p.rules) c.system-system.ensures.value)

pub link_rule-requires : goal.link_rule-requires
link_rule-requires g c =
    let a = c.args in
    let v = a.tables.now in
    let now = c.rules.tables in
    let loop = c.rules.invariant in
    let k = c.in-Some.k in
    let test = has_head a.row.from a.symbol in
    let searched = searched_of g.S.Semiring.operations (λ x. g.S.Semiring.laws x) a.first.now v c.valid.ensures.system c.valid.ensures.tables c.requires.finished in
    let found = links_at g.S.Semiring.operations (λ x. g.S.Semiring.laws x) a.first.now v a.row.to test searched now c.rules.at loop k c.in-Some.is in
    let low = links_within g.S.Semiring.operations (λ x. g.S.Semiring.laws x) a.first.now v a.row.to test searched now c.rules.at loop k c.in-Some.is in
    let L : TablesValue g.row.S.Denot g.row.S-W.Denot g.row.S-Ret.Denot → Type 0 = λ u. k < length u.system.rules in
    let E : TablesValue g.row.S.Denot g.row.S-W.Denot g.row.S-Ret.Denot → Type 0 = λ u. StandsAt a.t a.row u.base in
    let H : TablesValue g.row.S.Denot g.row.S-W.Denot g.row.S-Ret.Denot → Type 0 =
    λ u. (r : Rule g.row.S.Denot g.row.S-W.Denot g.row.S-Ret.Denot) → slice_get u.system.rules k ≡ Some r → a.row ≡ arrow r.control (Symbol r.symbol) a.row.to in
    record {
      rule = subst L (sym loop.links.others) low;
      entry = subst E (sym loop.links.others) c.requires.entry;
      head = subst H (sym loop.links.others) (head_by v.system a.row a.symbol c.requires.label k found.item found.there found.passes);
      finished = (loop_searched g.S.Semiring.operations (λ x. g.S.Semiring.laws x) a.first.now v a.row.to test searched now c.rules.at loop).finished;
    }

pub rules-preserved : goal.rules-preserved
rules-preserved g c =
    let a = c.args in
    let v = a.tables.now in
    let now = c.rules.tables in
    let loop = c.rules.invariant in
    let k = c.in-Some.k in
    let test = has_head a.row.from a.symbol in
    let searched = searched_of g.S.Semiring.operations (λ x. g.S.Semiring.laws x) a.first.now v c.valid.ensures.system c.valid.ensures.tables c.requires.finished in
    let found = links_at g.S.Semiring.operations (λ x. g.S.Semiring.laws x) a.first.now v a.row.to test searched now c.rules.at loop k c.in-Some.is in
    let next = c.next_with_head-at.ensures ∙ ap (λ (p : Pushdown g.row.S.Denot g.row.S-W.Denot g.row.S-Ret.Denot). next_with_head k p.rules) c.system-system.ensures.value in
    links_go_on g.S.Semiring.operations (λ x. g.S.Semiring.laws x) a.first.now v a.row.to test searched now c.rules.at loop k c.in-Some.is c.link_rule.new.tables c.in_ok-link_rule.ensures.lowered c.in_ok-link_rule.ensures.met
    c.next_with_head-at.result (next ∙ with_head_goes_on v.system.rules k found.item found.there a.row.from a.symbol found.passes)

pub rules-smaller : goal.rules-smaller
rules-smaller g c =
    let a = c.args in
    let v = a.tables.now in
    let now = c.rules.tables in
    let loop = c.rules.invariant in
    let k = c.in-Some.k in
    let test = has_head a.row.from a.symbol in
    let searched = searched_of g.S.Semiring.operations (λ x. g.S.Semiring.laws x) a.first.now v c.valid.ensures.system c.valid.ensures.tables c.requires.finished in
    let found = links_at g.S.Semiring.operations (λ x. g.S.Semiring.laws x) a.first.now v a.row.to test searched now c.rules.at loop k c.in-Some.is in
    let next = c.next_with_head-at.ensures ∙ ap (λ (p : Pushdown g.row.S.Denot g.row.S-W.Denot g.row.S-Ret.Denot). next_with_head k p.rules) c.system-system.ensures.value in
    links_smaller g.S.Semiring.operations (λ x. g.S.Semiring.laws x) a.first.now v a.row.to test searched now c.rules.at loop k c.in-Some.is c.next_with_head-at.result
    (next ∙ with_head_goes_on v.system.rules k found.item found.there a.row.from a.symbol found.passes)

pub returns : goal.returns
returns g c =
    let a = c.args in
    let v = a.tables.now in
    let searched = searched_of g.S.Semiring.operations (λ x. g.S.Semiring.laws x) a.first.now v c.valid.ensures.system c.valid.ensures.tables c.requires.finished in
    record {
      lowered = c.rules.invariant.links;
      met = λ k r there head.
          links_end g.S.Semiring.operations (λ x. g.S.Semiring.laws x) a.first.now v a.row.to (has_head a.row.from a.symbol) searched c.rules.tables c.rules.at c.rules.invariant c.in_default.is k r there
          (fires_at r a.row a.symbol c.requires.label head);
    }
