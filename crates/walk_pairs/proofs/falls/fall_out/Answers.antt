use Rattle.std.proofs.Common.{◌≡◌, ℕ, ◌<◌, ◌+◌, List, length, sym, ap, ◌∙◌, subst}
use Rattle.std.specs.Prelude.{Option, Some, slice_get}
use Rattle.std.proofs.lemmas.Bool.{eqb-true}
use Rattle.key_rows.specs.Rows.{index_from}
use Rattle.weight_tables.specs.Entries.{TableEntry, is_out_of}
use Rattle.weight_tables.specs.Tables.{entries_of, with_entries}
use Rattle.weight_tables.specs.declared.layer.Layer.TheVariants.{Walk}
use Rattle.weight_tables.proofs.CallerLemmas.{to_go, walk_starts, walk_at, walk_within, walk_goes_on, walk_ends, less_to_go}
use Rattle.walk_pairs.specs.Giving.{IsFallOn}
use Rattle.walk_pairs.specs.Lowerings.{ArePairsLowered}
use Rattle.walk_pairs.specs.Ways.{TakesAt}
use Rattle.walk_pairs.proofs.PairLemmas.{same_layer, none_pairs, pairs_then}
use Rattle.walk_pairs.proofs.FallLemmas.{IsEntryMet, out_goes_on, out_skips, all_met, all_fit, entry_later}
use Rattle.walk_pairs.proofs.GivenLemmas.{over_made, over_met}
use Rattle.walk_pairs.proofs.falls.fall_out.Goals as goal

pub out-init : goal.out-init
out-init g c =
    let a = c.args in
    let v = a.tables.now in
    let s = g.S.Semiring.operations v.system.semiring in
    let Has : ℕ → Type 0 = TakesAt a.pattern.now.items a.next in (
      none_pairs s (IsFallOn s v a.order a.layer a.stage a.from Has a.next) v,
      walk_starts (is_out_of a.from) (entries_of a.layer v) c.first_out_of-at.result (IsEntryMet s v a.order a.layer a.stage a.from Has a.next v.walk) c.first_out_of-at.ensures.number,
    )

pub fall_over-requires-clause-entry : goal.fall_over-requires-clause-entry
fall_over-requires-clause-entry g c =
    let a = c.args in
    let v = a.tables.now in
    let s = g.S.Semiring.operations v.system.semiring in
    let v1 = c.out.tables in
    let layer_is = ap (entries_of a.layer) c.out.invariant.0.others ∙ same_layer a.layer c.requires.layer v1.walk v in
    let P : List (TableEntry g.row.S-W.Denot) → Type 0 = λ es. c.in-Some.t < length es in
    subst P (sym layer_is)
    (walk_within (is_out_of a.from) (entries_of a.layer v) c.out.at (IsEntryMet s v a.order a.layer a.stage a.from (TakesAt a.pattern.now.items a.next) a.next v1.walk) c.out.invariant.1 c.in-Some.t c.in-Some.is)

-- the next that goes out, in the layer as it was
next_is : (g : _) (c : goal.After-next_out_of-at g) → c.next_out_of-at.result ≡ index_from (is_out_of c.args.from) (c.in-Some.t + 1) (entries_of c.args.layer c.args.tables.now)
next_is g c =
    let a = c.args in
    let v = a.tables.now in
    let s = g.S.Semiring.operations v.system.semiring in
    let v1 = c.out.tables in
    let Has : ℕ → Type 0 = TakesAt a.pattern.now.items a.next in
    let f = walk_at (is_out_of a.from) (entries_of a.layer v) c.out.at (IsEntryMet s v a.order a.layer a.stage a.from Has a.next v1.walk) c.out.invariant.1 c.in-Some.t c.in-Some.is in
    let made = over_made g.S.Semiring.operations v a.order a.layer c.requires.layer a.stage v1 c.fall_over.new.tables c.out.invariant.0.others Has a.next c.in-Some.t c.in_ok-fall_over.ensures f.item f.there in
    let P : List (TableEntry g.row.S-W.Denot) → Type 0 =
    λ es. slice_get es c.in-Some.t ≡ Some f.item → c.next_out_of-at.result ≡ index_from (is_out_of f.item.place.from) (c.in-Some.t + 1) es in
    subst P (ap (entries_of a.layer) made.others ∙ same_layer a.layer c.requires.layer _ v) (c.next_out_of-at.ensures.row f.item) f.there ∙ out_goes_on (entries_of a.layer v) a.from c.in-Some.t f.item f.passes

pub out-preserved : goal.out-preserved
out-preserved g c =
    let a = c.args in
    let v = a.tables.now in
    let s = g.S.Semiring.operations v.system.semiring in
    let law = g.S.Semiring.laws v.system.semiring in
    let valid = c.valid.ensures.tables in
    let v1 = c.out.tables in
    let v2 = c.fall_over.new.tables in
    let t = c.in-Some.t in
    let Has : ℕ → Type 0 = TakesAt a.pattern.now.items a.next in
    let one = c.out.invariant.0 in
    let f = walk_at (is_out_of a.from) (entries_of a.layer v) c.out.at (IsEntryMet s v a.order a.layer a.stage a.from Has a.next v1.walk) c.out.invariant.1 t c.in-Some.is in
    let from : f.item.place.from ≡ a.from = eqb-true f.item.place.from a.from f.passes in
    let P : ℕ → Type 0 = λ n. ArePairsLowered s (IsFallOn s v a.order a.layer a.stage n Has a.next) (with_entries Walk v1.walk v) v2 in
    let step = subst P from (over_made g.S.Semiring.operations v a.order a.layer c.requires.layer a.stage v1 v2 one.others Has a.next t c.in_ok-fall_over.ensures f.item f.there) in (
      pairs_then s (IsFallOn s v a.order a.layer a.stage a.from Has a.next) v v1 v2 one step,
      walk_goes_on (is_out_of a.from) (entries_of a.layer v) c.out.at (IsEntryMet s v a.order a.layer a.stage a.from Has a.next v1.walk) c.out.invariant.1 t c.next_out_of-at.result
          (IsEntryMet s v a.order a.layer a.stage a.from Has a.next v2.walk) c.in-Some.is
          (λ k met. entry_later law v valid a.order a.layer a.stage a.from Has a.next v1 one v2 step k met)
          (λ e there _ h label has. over_met g.S.Semiring.operations v a.order a.layer c.requires.layer a.stage v1 v2 one.others Has a.next t c.in_ok-fall_over.ensures e there h label has)
          (λ k other. out_skips s v a.order a.layer a.stage a.from Has a.next v2.walk k other)
          (next_is g c),
    )

pub out-smaller : goal.out-smaller
out-smaller g c =
    let a = c.args in
    let v = a.tables.now in
    let s = g.S.Semiring.operations v.system.semiring in
    let P : ℕ → Type 0 = IsEntryMet s v a.order a.layer a.stage a.from (TakesAt a.pattern.now.items a.next) a.next c.out.tables.walk in
    let Q : Option ℕ → Type 0 = λ o. to_go (length (entries_of a.layer v)) c.next_out_of-at.result < to_go (length (entries_of a.layer v)) o in
    subst Q (sym c.in-Some.is) (less_to_go (is_out_of a.from) (entries_of a.layer v) c.in-Some.t c.next_out_of-at.result
    (walk_within (is_out_of a.from) (entries_of a.layer v) c.out.at P c.out.invariant.1 c.in-Some.t c.in-Some.is) (next_is g c))

pub returns : goal.returns
returns g c =
    let a = c.args in
    let v = a.tables.now in
    let s = g.S.Semiring.operations v.system.semiring in
    let law = g.S.Semiring.laws v.system.semiring in
    let valid = c.valid.ensures.tables in
    let v1 = c.out.tables in
    let Has : ℕ → Type 0 = TakesAt a.pattern.now.items a.next in
    let one = c.out.invariant.0 in
    record {
      lowered = one;
      met = all_met law v valid a.order a.layer a.stage a.from Has a.next v1.walk (all_fit law v valid a.order a.layer a.stage a.from Has a.next v1 one)
          (walk_ends (is_out_of a.from) (entries_of a.layer v) c.out.at (IsEntryMet s v a.order a.layer a.stage a.from Has a.next v1.walk) c.out.invariant.1 c.in_default.is
          (λ k other. out_skips s v a.order a.layer a.stage a.from Has a.next v1.walk k other));
    }
