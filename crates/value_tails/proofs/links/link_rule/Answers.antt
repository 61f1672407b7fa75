use Rattle.std.proofs.Common.{◌≡◌, ℕ, [], ◌∷◌, ◌+◌, length, get_or, refl, sym, ap, ◌∙◌, subst, arith}
use Rattle.std.specs.Prelude.{None, Some, option_map, slice_get}
use Rattle.std.proofs.lemmas.Option.{same_Some, slice_get_within}
use Rattle.key_rows.specs.Rows.{index_where}
use Rattle.pushdown_rules.specs.declared.rule.Rule.{Rule}
use Rattle.pushdown_rules.specs.Pushdown.{Pushdown}
use Rattle.pushdown_rules.specs.Rows.{goes_onto}
use Rattle.pushdown_rules.proofs.CallerLemmas.{index_found, index_from_start}
use Rattle.weighted_automata.specs.declared.place.Place.{Place}
use Rattle.weight_tables.specs.Entries.{TableEntry, lowered_in}
use Rattle.weight_tables.specs.Tables.{TablesValue, with_entries, with_hand}
use Rattle.weight_tables.specs.declared.layer.Layer.TheVariants.{Walk}
use Rattle.forward_value_laws.specs.Model.{callee}
use Rattle.forward_value_search.specs.Places.{number_of, arrow}
use Rattle.weighted_automata.specs.declared.place.Label.TheVariants.{Symbol, Empty}
use Rattle.value_tails.specs.private.Steps.{link_place, IsLinked}
use Rattle.value_tails.proofs.LinkLemmas.{two_of, number_within, links_none, searched_of, rule_links, rule_linked, not_two, not_onto}
use Rattle.value_tails.proofs.links.link_rule.Goals as goal

pub hold_then_rule-requires-clause-entry : goal.hold_then_rule-requires-clause-entry
hold_then_rule-requires-clause-entry g c = slice_get_within c.args.tables.now.base c.args.t c.requires.entry.0 c.requires.entry.1

pub overflow_add-link-in-len2 : goal.overflow_add-link-in-len2
overflow_add-link-in-len2 g c =
    let p = c.system-system.result.now in
    let low = number_within _ p.rules c.in-Some.number (sym c.first_onto.ensures ∙ c.in-Some.is) in
    let few = c.system-system.ensures.valid.few in
    let items = c.items.ensures.limit in
    omega (arith, low, few, items)

pub returns-in_default-first_onto : goal.returns-in_default-first_onto
returns-in_default-first_onto g c =
    let a = c.args in
    let v = a.tables.now in
    let r = c.rule-rule.result.now in
    let p = c.system-system.result.now in
    let xs = c.as_slice.result.now in
    let there : slice_get v.system.rules a.k ≡ Some r = ap (λ (q : Pushdown g.row.S.Denot g.row.S-W.Denot g.row.S-Ret.Denot). slice_get q.rules a.k) (sym c.system-system.ensures.value) ∙ c.rule-rule.ensures.rule in
    let right : r.right ≡ get_or xs 0 0 ∷ get_or xs 1 0 ∷ [] = sym c.as_slice.ensures ∙ two_of xs c.in-len2.len_at_least c.in-len2.len_below in
    let none : index_where (goes_onto r.to (get_or xs 0 0)) v.system.rules ≡ None =
    ap (λ (q : Pushdown g.row.S.Denot g.row.S-W.Denot g.row.S-Ret.Denot). index_where (goes_onto r.to (get_or xs 0 0)) q.rules) (sym c.system-system.ensures.value) ∙ sym c.first_onto.ensures ∙ c.in_default-first_onto.is in
    record {
      lowered = links_none g.S.Semiring.operations (λ x. g.S.Semiring.laws x) a.first.now v;
      met = λ q is b h right' m entered. absurd (not_onto (length a.first.now.items) v.system a.k r there (get_or xs 0 0) (get_or xs 1 0) right none);
    }

pub returns-in_ok-lower-in-len2 : goal.returns-in_ok-lower-in-len2
returns-in_ok-lower-in-len2 g c =
    let a = c.args in
    let v = a.tables.now in
    let r = c.rule-rule.result.now in
    let xs = c.as_slice.result.now in
    let e = c.requires.entry.0 in
    let at = c.requires.entry.1 in
    let place = c.requires.entry.2 in
    let there : slice_get v.system.rules a.k ≡ Some r = ap (λ (q : Pushdown g.row.S.Denot g.row.S-W.Denot g.row.S-Ret.Denot). slice_get q.rules a.k) (sym c.system-system.ensures.value) ∙ c.rule-rule.ensures.rule in
    let top = get_or xs 0 0 in
    let below = get_or xs 1 0 in
    let right : r.right ≡ top ∷ below ∷ [] = sym c.as_slice.ensures ∙ two_of xs c.in-len2.len_at_least c.in-len2.len_below in
    let m = length a.first.now.items + 1 + c.in-Some.number in
    let onto : index_where (goes_onto r.to top) v.system.rules ≡ Some c.in-Some.number =
    ap (λ (q : Pushdown g.row.S.Denot g.row.S-W.Denot g.row.S-Ret.Denot). index_where (goes_onto r.to top) q.rules) (sym c.system-system.ensures.value) ∙ sym c.first_onto.ensures ∙ c.in-Some.is in
    let entered : number_of (length a.first.now.items) v.system (callee r.to top) ≡ Some m = ap (option_map (λ k. length a.first.now.items + 1 + k)) onto in
    let to : a.row.to ≡ e.place.to = ap (λ (y : Place). y.to) (sym place) in
    let head : e.place ≡ arrow r.control (Symbol r.symbol) e.place.to = place ∙ c.requires.head r there ∙ ap (arrow r.control (Symbol r.symbol)) to in
    let searched = searched_of g.S.Semiring.operations (λ x. g.S.Semiring.laws x) a.first.now v c.valid.ensures.system c.valid.ensures.tables c.requires.finished in
    let F = λ (x : Place) (u : TablesValue g.row.S.Denot g.row.S-W.Denot g.row.S-Ret.Denot). with_entries Walk (lowered_in (g.S.Semiring.operations u.system.semiring) x u.hand u.walk) u in
    let link : arrow a.row.to Empty (c.items.result + 1 + c.in-Some.number) ≡ link_place e.place.to m = ap (λ n. link_place n (c.items.result + 1 + c.in-Some.number)) to ∙ ap (λ n. link_place e.place.to (n + 1 + c.in-Some.number)) c.items.ensures.value in
    let made = c.in_ok-lower-in-len2.ensures.ok ∙ ap (λ (x : Place). F x c.hold_then_rule.new.self) link ∙ ap (F (link_place e.place.to m)) (c.in_ok-hold_then_rule-in-len2.ensures.ok r there e at) in
    let L = rule_linked g.S.Semiring.operations (λ x. g.S.Semiring.laws x) a.first.now v searched a.t e at a.k r there head top below m right entered c.lower.new.self made in
    let Q : ℕ → Type 0 = λ n. IsLinked (g.S.Semiring.operations v.system.semiring) a.first.now v c.lower.new.self.walk a.k r n in
    let R : Rule g.row.S.Denot g.row.S-W.Denot g.row.S-Ret.Denot → Type 0 = λ q. IsLinked (g.S.Semiring.operations v.system.semiring) a.first.now v c.lower.new.self.walk a.k q a.row.to in
    record {
      lowered = rule_links g.S.Semiring.operations (λ x. g.S.Semiring.laws x) a.first.now v searched a.t e at a.k r there head top below m right entered c.lower.new.self made;
      met = λ q is. subst R (same_Some r q (sym there ∙ is)) (subst Q (sym to) L);
    }
