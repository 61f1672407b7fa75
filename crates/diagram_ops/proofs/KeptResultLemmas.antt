-- Results stay right as nodes are added.
use Rattle.std.proofs.Common.{◌≡◌, ℕ, ◌+◌, ◌*◌, ◌<◌, Bool, List, [], length, sym, ap, ◌∙◌, subst, inl, inr, arith}
use Rattle.std.specs.Prelude.{Option, None, Some, ◌⊎◌, nat_eq, cond, slice_get, replicate, take, ◌++◌, slice_set}
use Rattle.std.proofs.lemmas.Option.{same_Some}
use Rattle.diagram_store.specs.declared.branch.Branch.{Branch}
use Rattle.diagram_store.specs.Nodes.{node_at, IsReduced}
use Rattle.diagram_ops.specs.declared.composing.Operand.{Operand}
use Rattle.diagram_ops.specs.declared.composing.Operand.TheVariants.{First, Second}
use Rattle.diagram_ops.specs.declared.kept_results.Operation.{Operation}
use Rattle.diagram_ops.specs.declared.kept_results.Operation.TheVariants.{Union, Intersection, Composition}
use Rattle.diagram_ops.specs.declared.kept_results.Slot.{Slot}
use Rattle.diagram_ops.specs.NodeTables.{Keeps}
use Rattle.diagram_ops.specs.private.Scratch.{IsPast}
use Rattle.diagram_ops.specs.private.Composing.{position, placed_value, IsComposition}
use Rattle.diagram_ops.specs.private.KeptResults.{IsOwnComposition, IsResult, AreRight}
use Rattle.diagram_ops.proofs.KeepingLemmas.{keeps_within, keeps_past, keeps_value}
use Rattle.diagram_ops.proofs.ApplyingLemmas.{applied_kept}
use Rattle.diagram_ops.proofs.ComposingLemmas.{composition_kept}

module _ (old : List Branch) (whole : IsReduced old) (new : List Branch) (other : IsReduced new) (k : Keeps old new) where
  placed_kept : (operand : Operand) (x : ℕ) → x < length old + 2 → (all : ℕ → Bool) → placed_value operand new x all ≡ placed_value operand old x all
  placed_kept operand x w all = keeps_value old whole new other k x w (λ v. all (position operand v))

  past_before : (order : ℕ → ℕ) (p x : ℕ) → IsPast order new p x → IsPast order old p x
  past_before order p x past n e = past n (k.each x n e)

  -- the same references, among more nodes
  pub over_more : (nodes : List Branch) (x y r : ℕ) → x < length old + 2 → y < length old + 2 → IsComposition old old nodes x y r → IsComposition new new nodes x y r
  over_more nodes x y r wx wy c = record {
    within = c.within;
    means = λ bits. (
      λ yes. let o = (c.means bits).0 yes in (o.0, o.1, placed_kept First x wx o.0 ∙ o.2, placed_kept Second y wy o.0 ∙ o.3),
      λ o. (c.means bits).1 (o.0, o.1, sym (placed_kept First x wx o.0) ∙ o.2, sym (placed_kept Second y wy o.0) ∙ o.3),
    );
    above = λ v b. c.above v (past_before (position First) (2 * v) x b.0, past_before (position Second) (2 * v) y b.1);
  }

  -- among the nodes that were there before
  pub over_less : (nodes : List Branch) (x y r : ℕ) → x < length old + 2 → y < length old + 2 → IsComposition new new nodes x y r → IsComposition old old nodes x y r
  over_less nodes x y r wx wy c = record {
    within = c.within;
    means = λ bits. (
      λ yes. let o = (c.means bits).0 yes in (o.0, o.1, sym (placed_kept First x wx o.0) ∙ o.2, sym (placed_kept Second y wy o.0) ∙ o.3),
      λ o. (c.means bits).1 (o.0, o.1, placed_kept First x wx o.0 ∙ o.2, placed_kept Second y wy o.0 ∙ o.3),
    );
    above = λ v b. c.above v (keeps_past (position First) old new k (2 * v) x wx b.0, keeps_past (position Second) old new k (2 * v) y wy b.1);
  }

  own_kept : (x y r : ℕ) → IsOwnComposition old x y r → IsOwnComposition new x y r
  own_kept x y r c = record {
    first = keeps_within old new k x c.first;
    second = keeps_within old new k y c.second;
    composed = over_more new x y r c.first c.second (composition_kept old old old whole new other k x y r c.composed);
  }

  result_kept : (operation : Operation) (x y r : ℕ) → IsResult operation old x y r → IsResult operation new x y r
  result_kept Union x y r a = applied_kept old whole new other k 252 x y 0 r a
  result_kept Intersection x y r a = applied_kept old whole new other k 192 x y 0 r a
  result_kept Composition x y r a = own_kept x y r a

  pub are_right_kept : (slots : List Slot) → AreRight old slots → AreRight new slots
  are_right_kept slots a i s e = result_kept s.operation s.x s.y s.result (a i s e)
