-- What holds over each semiring that a document can name.
use Rattle.std.proofs.Common.{◌≡◌, ℕ, Bool, true, false, cond, Some, None, refl}
use Rattle.std.specs.Prelude.{Option, nat_le, unwrap_or}
use Rattle.semiring_laws.specs.declared.reach.NoMap.{NoMap}
use Rattle.semiring_laws.specs.declared.reach.Reach.{Reach as ReachValue}
use Rattle.genkill_weights.specs.declared.genkill.GenKill.{GenKill as GenKillValue}
use Rattle.genkill_weights.specs.declared.weight.GenKillW.{GenKillW}
use Rattle.genkill_weights.specs.declared.weight.MaskMap.{MaskMap}
use Rattle.genkill_weights.specs.Widths.{width_for}
use Rattle.copy_weights.specs.declared.form.CopyW.{CopyW}
use Rattle.copy_weights.specs.declared.form.CopyMap.{CopyMap}
use Rattle.relation_laws.specs.Building.{Parts}
use Rattle.relation_weights.specs.declared.rel_map.RelMap.{RelMap}
use Rattle.document_forms.specs.Lawful.{IsWeightsLine}
use Rattle.document_forms.specs.declared.weight.WeightsLine.{WeightsLine}
use Rattle.document_forms.specs.declared.weight.WeightsLine.TheVariants.{Reach, Cost, GenKill, Copy, Relation}
use Rattle.document_systems.specs.Kinds.{Kind}
use Rattle.document_systems.specs.CopyWeights.{copy_kind}
use Rattle.document_systems.specs.FactWeights.{genkill_kind}
use Rattle.document_systems.specs.RelationWeights.{relation_kind}
use Rattle.document_systems.specs.Weights.{reach_kind, cost_kind}
use Rattle.wpds_app.specs.Reports.{BySemiring}

-- ---- facts

-- this holds of the width for so many facts, if it holds of each width
pub of_widths : (P : ℕ → Type 0) → P 1 → P 2 → P 4 → P 8 → P 16 → (facts : ℕ) → P (width_for facts)
of_widths P one two four eight sixteen facts = go (nat_le facts 64) (nat_le facts 128) (nat_le facts 256) (nat_le facts 512) (nat_le facts 1024)
  where
    go : (a b c d e : Bool) → P (unwrap_or (cond a (Some 1) (cond b (Some 2) (cond c (Some 4) (cond d (Some 8) (cond e (Some 16) None))))) 16)
    go true b c d e = one
    go false true c d e = two
    go false false true d e = four
    go false false false true e = eight
    go false false false false true = sixteen
    go false false false false false = sixteen

module _ (Q : (S W Map : Type 0) → Kind S W Map → S → Type 0) where
  -- it holds over facts of each width
  pub record OverFacts : Type 0 where
    pub one : Q (GenKillValue 1) (GenKillW 1) (MaskMap 1) (genkill_kind 1) (record {})
    pub two : Q (GenKillValue 2) (GenKillW 2) (MaskMap 2) (genkill_kind 2) (record {})
    pub four : Q (GenKillValue 4) (GenKillW 4) (MaskMap 4) (genkill_kind 4) (record {})
    pub eight : Q (GenKillValue 8) (GenKillW 8) (MaskMap 8) (genkill_kind 8) (record {})
    pub sixteen : Q (GenKillValue 16) (GenKillW 16) (MaskMap 16) (genkill_kind 16) (record {})

  over_facts : OverFacts → (facts : ℕ) → let n = width_for facts in Q (GenKillValue n) (GenKillW n) (MaskMap n) (genkill_kind n) (record {})
  over_facts each facts =
      of_widths (λ n. Q (GenKillValue n) (GenKillW n) (MaskMap n) (genkill_kind n) (record {})) each.one each.two each.four each.eight each.sixteen facts

  -- ---- all weights

  -- it holds over the semiring of a weights line, if it holds over each
  pub over_each : (weights : WeightsLine) (items : ℕ) → Q ReachValue Bool NoMap reach_kind (record {})
      → ((cap : ℕ) → IsWeightsLine (Cost cap) → Q ℕ (Option ℕ) NoMap cost_kind cap) → OverFacts
      → ((variables : ℕ) → Q ℕ CopyW CopyMap copy_kind variables) → (weights ≡ Relation → Q ℕ Parts RelMap relation_kind items)
      → IsWeightsLine weights → BySemiring Q weights items
  over_each Reach items reach cost facts copy relation named = reach
  over_each (Cost cap) items reach cost facts copy relation named = cost cap named
  over_each GenKill items reach cost facts copy relation named = over_facts facts items
  over_each Copy items reach cost facts copy relation named = copy items
  over_each Relation items reach cost facts copy relation named = relation refl
