use Rattle.std.proofs.Common.{◌≡◌, ℕ, ◌<◌, ◌+◌, List, length, refl, sym, ap, ◌∙◌, subst}
use Rattle.std.specs.Prelude.{Option, Some, slice_get}
use Rattle.key_rows.specs.Rows.{index_from}
use Rattle.weighted_automata.specs.declared.place.Label.TheVariants.{Symbol}
use Rattle.weight_tables.specs.Entries.{TableEntry, is_from}
use Rattle.weight_tables.specs.Tables.{entries_of}
use Rattle.weight_tables.proofs.CallerLemmas.{to_go, walk_starts, walk_at, walk_within, walk_goes_on, walk_ends, less_to_go}
use Rattle.walk_pairs.specs.Giving.{IsFallOn}
use Rattle.walk_pairs.proofs.PairLemmas.{same_layer, none_pairs, pairs_then}
use Rattle.walk_pairs.proofs.FallLemmas.{IsEntryMet, from_row, row_goes_on, row_skips, all_met, all_fit, fall_made, entry_later, entry_step, entry_met}
use Rattle.walk_pairs.proofs.falls.fall_row.Goals as goal

pub row-init : goal.row-init
row-init g c =
    let a = c.args in
    let v = a.tables.now in
    let s = g.S.Semiring.operations v.system.semiring in (
      none_pairs s (IsFallOn s v a.order a.layer a.stage a.from (λ h. h ≡ a.symbol) a.next) v,
      walk_starts (is_from a.from (Symbol a.symbol)) (entries_of a.layer v) c.first_from-at.result (IsEntryMet s v a.order a.layer a.stage a.from (λ h. h ≡ a.symbol) a.next v.walk) c.first_from-at.ensures.number,
    )

pub fall-requires : goal.fall-requires
fall-requires g c =
    let a = c.args in
    let v = a.tables.now in
    let s = g.S.Semiring.operations v.system.semiring in
    let v1 = c.row.tables in
    let layer_is = ap (entries_of a.layer) c.row.invariant.0.others ∙ same_layer a.layer c.requires v1.walk v in
    let P : List (TableEntry g.row.S-W.Denot) → Type 0 = λ es. c.in-Some.t < length es in
    subst P (sym layer_is)
    (walk_within (is_from a.from (Symbol a.symbol)) (entries_of a.layer v) c.row.at (IsEntryMet s v a.order a.layer a.stage a.from (λ h. h ≡ a.symbol) a.next v1.walk) c.row.invariant.1 c.in-Some.t c.in-Some.is)

-- the next of the row, in the layer as it was
next_is : (g : _) (c : goal.After-next_from-at g) → c.next_from-at.result ≡ index_from (is_from c.args.from (Symbol c.args.symbol)) (c.in-Some.t + 1) (entries_of c.args.layer c.args.tables.now)
next_is g c =
    let a = c.args in
    let v = a.tables.now in
    let s = g.S.Semiring.operations v.system.semiring in
    let v1 = c.row.tables in
    let v2 = c.fall.new.tables in
    let f = walk_at (is_from a.from (Symbol a.symbol)) (entries_of a.layer v) c.row.at (IsEntryMet s v a.order a.layer a.stage a.from (λ h. h ≡ a.symbol) a.next v1.walk) c.row.invariant.1 c.in-Some.t c.in-Some.is in
    let made = fall_made g.S.Semiring.operations v a.order a.layer c.requires a.stage v1 v2 a.next c.in-Some.t c.row.invariant.0.others c.in_ok-fall.ensures f.item f.there in
    let P : List (TableEntry g.row.S-W.Denot) → Type 0 =
    λ es. slice_get es c.in-Some.t ≡ Some f.item → c.next_from-at.result ≡ index_from (is_from f.item.place.from f.item.place.label) (c.in-Some.t + 1) es in
    subst P (ap (entries_of a.layer) made ∙ same_layer a.layer c.requires _ v) (c.next_from-at.ensures.row f.item) f.there ∙ row_goes_on (entries_of a.layer v) a.from a.symbol c.in-Some.t f.item f.passes

pub row-preserved : goal.row-preserved
row-preserved g c =
    let a = c.args in
    let v = a.tables.now in
    let s = g.S.Semiring.operations v.system.semiring in
    let law = g.S.Semiring.laws v.system.semiring in
    let valid = c.valid.ensures.tables in
    let v1 = c.row.tables in
    let v2 = c.fall.new.tables in
    let t = c.in-Some.t in
    let one = c.row.invariant.0 in
    let f = walk_at (is_from a.from (Symbol a.symbol)) (entries_of a.layer v) c.row.at (IsEntryMet s v a.order a.layer a.stage a.from (λ h. h ≡ a.symbol) a.next v1.walk) c.row.invariant.1 t c.in-Some.is in
    let at = from_row a.from a.symbol f.item f.passes in
    let made = fall_made g.S.Semiring.operations v a.order a.layer c.requires a.stage v1 v2 a.next t one.others c.in_ok-fall.ensures f.item f.there in
    let step = entry_step law v valid a.order a.layer a.stage a.from (λ h. h ≡ a.symbol) a.next v1 one v2 t f.item f.there a.symbol at.0 at.1 refl made in (
      pairs_then s (IsFallOn s v a.order a.layer a.stage a.from (λ h. h ≡ a.symbol) a.next) v v1 v2 one step,
      walk_goes_on (is_from a.from (Symbol a.symbol)) (entries_of a.layer v) c.row.at (IsEntryMet s v a.order a.layer a.stage a.from (λ h. h ≡ a.symbol) a.next v1.walk) c.row.invariant.1 t c.next_from-at.result
          (IsEntryMet s v a.order a.layer a.stage a.from (λ h. h ≡ a.symbol) a.next v2.walk) c.in-Some.is
          (λ k met. entry_later law v valid a.order a.layer a.stage a.from (λ h. h ≡ a.symbol) a.next v1 one v2 step k met)
          (entry_met law v valid a.order a.layer a.stage a.from (λ h. h ≡ a.symbol) a.next v1 one v2 t f.item f.there a.symbol at.0 at.1 refl made)
          (λ k other. row_skips s v a.order a.layer a.stage a.from a.symbol a.next v2.walk k other)
          (next_is g c),
    )

pub row-smaller : goal.row-smaller
row-smaller g c =
    let a = c.args in
    let v = a.tables.now in
    let s = g.S.Semiring.operations v.system.semiring in
    let P : ℕ → Type 0 = IsEntryMet s v a.order a.layer a.stage a.from (λ h. h ≡ a.symbol) a.next c.row.tables.walk in
    let Q : Option ℕ → Type 0 = λ o. to_go (length (entries_of a.layer v)) c.next_from-at.result < to_go (length (entries_of a.layer v)) o in
    subst Q (sym c.in-Some.is) (less_to_go (is_from a.from (Symbol a.symbol)) (entries_of a.layer v) c.in-Some.t c.next_from-at.result
    (walk_within (is_from a.from (Symbol a.symbol)) (entries_of a.layer v) c.row.at P c.row.invariant.1 c.in-Some.t c.in-Some.is) (next_is g c))

pub returns : goal.returns
returns g c =
    let a = c.args in
    let v = a.tables.now in
    let s = g.S.Semiring.operations v.system.semiring in
    let law = g.S.Semiring.laws v.system.semiring in
    let valid = c.valid.ensures.tables in
    let v1 = c.row.tables in
    let one = c.row.invariant.0 in
    record {
      lowered = one;
      met = all_met law v valid a.order a.layer a.stage a.from (λ h. h ≡ a.symbol) a.next v1.walk (all_fit law v valid a.order a.layer a.stage a.from (λ h. h ≡ a.symbol) a.next v1 one)
          (walk_ends (is_from a.from (Symbol a.symbol)) (entries_of a.layer v) c.row.at (IsEntryMet s v a.order a.layer a.stage a.from (λ h. h ≡ a.symbol) a.next v1.walk) c.row.invariant.1 c.in_default.is
          (λ k other. row_skips s v a.order a.layer a.stage a.from a.symbol a.next v1.walk k other));
    }
