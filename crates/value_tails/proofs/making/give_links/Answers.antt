use Rattle.std.proofs.Common.{◌≡◌, ℕ, ◌<◌, ◌+◌, List, length, sym, ap, ◌∙◌, subst, arith}
use Rattle.std.specs.Prelude.{None, Some, slice_get}
use Rattle.std.proofs.lemmas.Bool.{eqb-true}
use Rattle.key_rows.specs.Rows.{index_from}
use Rattle.weighted_automata.specs.declared.place.Place.{Place}
use Rattle.weight_tables.specs.Entries.{TableEntry, is_out_of, lowered_in}
use Rattle.weight_tables.specs.Tables.{TablesValue, with_entries}
use Rattle.weight_tables.specs.declared.layer.Layer.TheVariants.{Target}
use Rattle.value_tails.specs.Tailing.{tail_place}
use Rattle.value_tails.proofs.GiveLemmas.{out_start, out_at, out_within, out_on, out_walk, out_smaller, out_end}
use Rattle.value_tails.proofs.making.give_links.Goals as goal

pub links-init : goal.links-init
links-init g c =
    let a = c.args in
    out_start g.S.Semiring.operations (λ x. g.S.Semiring.laws x) a.first.now a.tables.now a.number c.valid.ensures.system c.valid.ensures.tables c.requires.linked c.requires.made c.first_out_of-at.result c.first_out_of-at.ensures.number

pub place-callee-requires : goal.place-callee-requires
place-callee-requires g c =
    let a = c.args in
    let low = out_within g.S.Semiring.operations (λ x. g.S.Semiring.laws x) a.first.now a.tables.now a.number c.valid.ensures.system c.valid.ensures.tables c.requires.linked c.requires.made c.links.tables c.links.at c.links.invariant c.in-Some.t c.in-Some.is in
    let same = ap (λ (u : TablesValue g.row.S.Denot g.row.S-W.Denot g.row.S-Ret.Denot). length u.walk) c.links.invariant.tails.others in
    omega (arith, low, same)

pub lower_then-requires : goal.lower_then-requires
lower_then-requires g c =
    let a = c.args in
    let low = out_within g.S.Semiring.operations (λ x. g.S.Semiring.laws x) a.first.now a.tables.now a.number c.valid.ensures.system c.valid.ensures.tables c.requires.linked c.requires.made c.links.tables c.links.at c.links.invariant c.in-Some.t c.in-Some.is in
    let same = ap (λ (u : TablesValue g.row.S.Denot g.row.S-W.Denot g.row.S-Ret.Denot). length u.walk) c.links.invariant.tails.others in
    omega (arith, low, same)

pub links-preserved : goal.links-preserved
links-preserved g c =
    let a = c.args in
    let v = a.tables.now in
    let now = c.links.tables in
    let loop = c.links.invariant in
    let t = c.in-Some.t in
    let found = out_at g.S.Semiring.operations (λ x. g.S.Semiring.laws x) a.first.now v a.number c.valid.ensures.system c.valid.ensures.tables c.requires.linked c.requires.made now c.links.at loop t c.in-Some.is in
    let e = found.item in
    let walk : now.walk ≡ v.walk = ap (λ (u : TablesValue g.row.S.Denot g.row.S-W.Denot g.row.S-Ret.Denot). u.walk) loop.tails.others in
    let there : slice_get now.walk t ≡ Some e = ap (λ (es : List (TableEntry g.row.S-W.Denot)). slice_get es t) walk ∙ found.there in
    let s = g.S.Semiring.operations now.system.semiring in
    let place = c.tail_place.ensures ∙ ap tail_place (ap (λ (y : Place). y.to) (c.place-callee.ensures e there)) in
    let step = c.in_ok-lower_then.ensures.ok e there ∙ ap (λ (x : Place). with_entries Target (lowered_in s x (s.extend now.hand e.weight) now.target) now) place in
    let new = c.lower_then.new.self in
    let walk' : new.walk ≡ v.walk = ap (λ (u : TablesValue g.row.S.Denot g.row.S-W.Denot g.row.S-Ret.Denot). u.walk) step ∙ walk in
    let there' : slice_get new.walk t ≡ Some e = ap (λ (es : List (TableEntry g.row.S-W.Denot)). slice_get es t) walk' ∙ found.there in
    let next = c.next_out_of-at.ensures.row e there' in
    let F : ℕ → Type 0 = λ n. c.next_out_of-at.result ≡ index_from (is_out_of n) (t + 1) new.walk in
    let goes = subst F (eqb-true e.place.from a.number found.passes) next ∙ ap (λ (es : List (TableEntry g.row.S-W.Denot)). index_from (is_out_of a.number) (t + 1) es) walk' in
    out_on g.S.Semiring.operations (λ x. g.S.Semiring.laws x) a.first.now v a.number c.valid.ensures.system c.valid.ensures.tables c.requires.linked c.requires.made now c.links.at loop t c.in-Some.is new step c.next_out_of-at.result goes

pub links-smaller : goal.links-smaller
links-smaller g c =
    let a = c.args in
    let v = a.tables.now in
    let now = c.links.tables in
    let loop = c.links.invariant in
    let t = c.in-Some.t in
    let found = out_at g.S.Semiring.operations (λ x. g.S.Semiring.laws x) a.first.now v a.number c.valid.ensures.system c.valid.ensures.tables c.requires.linked c.requires.made now c.links.at loop t c.in-Some.is in
    let e = found.item in
    let walk : now.walk ≡ v.walk = ap (λ (u : TablesValue g.row.S.Denot g.row.S-W.Denot g.row.S-Ret.Denot). u.walk) loop.tails.others in
    let there : slice_get now.walk t ≡ Some e = ap (λ (es : List (TableEntry g.row.S-W.Denot)). slice_get es t) walk ∙ found.there in
    let new = c.lower_then.new.self in
    let walk' : new.walk ≡ v.walk = ap (λ (u : TablesValue g.row.S.Denot g.row.S-W.Denot g.row.S-Ret.Denot). u.walk) (c.in_ok-lower_then.ensures.ok e there) ∙ walk in
    let there' : slice_get new.walk t ≡ Some e = ap (λ (es : List (TableEntry g.row.S-W.Denot)). slice_get es t) walk' ∙ found.there in
    let next = c.next_out_of-at.ensures.row e there' in
    let F : ℕ → Type 0 = λ n. c.next_out_of-at.result ≡ index_from (is_out_of n) (t + 1) new.walk in
    let goes = subst F (eqb-true e.place.from a.number found.passes) next ∙ ap (λ (es : List (TableEntry g.row.S-W.Denot)). index_from (is_out_of a.number) (t + 1) es) walk' in
    out_smaller g.S.Semiring.operations (λ x. g.S.Semiring.laws x) a.first.now v a.number c.valid.ensures.system c.valid.ensures.tables c.requires.linked c.requires.made now c.links.at loop t c.in-Some.is c.next_out_of-at.result goes

pub returns : goal.returns
returns g c =
    let a = c.args in
    record {
      lowered = c.links.invariant.tails;
      met = out_end g.S.Semiring.operations (λ x. g.S.Semiring.laws x) a.first.now a.tables.now a.number c.valid.ensures.system c.valid.ensures.tables c.requires.linked c.requires.made c.links.tables c.links.at c.links.invariant c.in_default.is;
    }
