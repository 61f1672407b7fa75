-- The edges and pop rules of an opening, one after another.
use Rattle.std.proofs.Common.{◌≡◌, ℕ, suc, zero, ◌+◌, ◌<◌, List, [], ◌∷◌, ◌++◌, length, get_or, drop, refl, sym, ap, ◌∙◌, arith}
use Rattle.std.specs.Prelude.{Option, None, Some, slice_get, replicate}
use Rattle.std.proofs.lemmas.List.{at_drop_more}
use Rattle.std.proofs.lemmas.Option.{same_Some}
use Rattle.semiring_laws.specs.Semiring.{Operations}
use Rattle.weighted_automata.specs.declared.place.Place.{Place}
use Rattle.pushdown_rules.specs.declared.rule.Rule.{Rule}
use Rattle.saturation_laws.specs.States.{CoreState, Change, apply, apply_all}
use Rattle.saturation_laws.specs.Openings.{pops_of, pops_at, pops_from, with_edges}
use Rattle.saturation_laws.specs.Queues.{queued}
use Rattle.weighted_automata.specs.Entries.{lowered}
use Rattle.weighted_automata.specs.declared.transitions.Entry.{Entry}
use Rattle.witness_graph.specs.declared.node.Node.{Node}
use Rattle.saturation_laws.specs.declared.holding.Holding.{Holding}
use Rattle.saturation_core.specs.declared.found.Found.{Found}
use Rattle.saturation_core.specs.private.Steps.{with_hands}

pub replicate-push : {X : Type 0} (n : ℕ) (x : X) → replicate n x ++ x ∷ [] ≡ replicate (n + 1) x
replicate-push zero x = refl
replicate-push (suc n) x = let e : suc (n + 1) ≡ suc n + 1 = omega arith in ap (λ xs. x ∷ xs) (replicate-push n x) ∙ ap (λ m. replicate m x) e

pub drop_at : {X : Type 0} (xs : List X) (k : ℕ) (x : X) → slice_get xs k ≡ Some x → drop k xs ≡ x ∷ drop (k + 1) xs
drop_at [] k x e = cc
drop_at (y ∷ xs) zero x e = ap (λ z. z ∷ xs) (same_Some y x e)
drop_at (y ∷ xs) (suc k) x e = let h : suc (k + 1) ≡ suc k + 1 = omega arith in drop_at xs k x e ∙ ap (λ m. x ∷ drop m (y ∷ xs)) h

missing : {X : Type 0} (xs : List X) (k : ℕ) → k < length xs → slice_get xs k ≡ None → ⊥
missing [] k within e = absurd (omega (arith, within))
missing (x ∷ xs) zero within e = cc
missing (x ∷ xs) (suc k) within e = let w : suc k < suc (length xs) = within in missing xs k (omega (arith, w)) e

module _ {S W Map : Type 0} (s : Operations W Map) where
  pub edge_more : (es : List Place) (i : ℕ) (d : Place) (old new : Found S W Map) (w : W) (hands : List (Option (Holding S W Map))) (all : CoreState S W Map)
      → i < length es → with_edges s (drop i es) (with_hands old hands) ≡ all
      → w ≡ s.one → new.transitions.transitions ≡ lowered (get_or es i d) w 0 old.transitions.transitions → new.graph.nodes ≡ old.graph.nodes → new.transitions.queue ≡ queued (get_or es i d) old.transitions.queue
      → with_edges s (drop (i + 1) es) (with_hands new hands) ≡ all
  edge_more es i d old new w hands all within was one found same last =
      let x = get_or es i d in
      let st : List (Entry S W Map) → List Node → List Place → CoreState S W Map = λ ts ns q. record { transitions = ts; nodes = ns; queue = q; hands = hands } in
      let ts = old.transitions.transitions in
      ap (λ us. with_edges s (drop (i + 1) es) (st us new.graph.nodes new.transitions.queue)) (found ∙ ap (λ v. lowered x v 0 ts) one)
      ∙ ap (λ ns. with_edges s (drop (i + 1) es) (st (lowered x s.one 0 ts) ns new.transitions.queue)) same
      ∙ ap (λ q. with_edges s (drop (i + 1) es) (st (lowered x s.one 0 ts) old.graph.nodes q)) last
      ∙ sym (at_drop_more (λ xs. with_edges s xs (with_hands old hands)) es i d within) ∙ was

  module _ (rs : List (Rule S W Map)) (k : ℕ) (r : Rule S W Map) (there : slice_get rs k ≡ Some r) (now all : CoreState S W Map) (was : apply_all s (pops_from k (drop k rs)) now ≡ all) where
    from_here : apply_all s (pops_of k r ++ pops_from (k + 1) (drop (k + 1) rs)) now ≡ all
    from_here =
        let e : suc k ≡ k + 1 = omega arith in
        sym (ap (λ xs. apply_all s (pops_from k xs) now) (drop_at rs k r there) ∙ ap (λ m. apply_all s (pops_of k r ++ pops_from m (drop (k + 1) rs)) now) e) ∙ was

  apply_all-append : (cs ds : List (Change W)) (st : CoreState S W Map) → apply_all s (cs ++ ds) st ≡ apply_all s ds (apply_all s cs st)
  apply_all-append [] ds st = refl
  apply_all-append (c ∷ cs) ds st = apply_all-append cs ds (apply s c st)

  pops_at_is : (rs : List (Rule S W Map)) (k : ℕ) (r : Rule S W Map) → slice_get rs k ≡ Some r → pops_at k rs ≡ pops_of k r
  pops_at_is rs k r there = let P : Option (Rule S W Map) → List (Change W) = λ o. elim o [ None ↦ [] | Some q ↦ pops_of k q ] in ap P there

  -- one rule more
  pub pops_more : (rs : List (Rule S W Map)) (k : ℕ) (now new all : CoreState S W Map) → k < length rs → apply_all s (pops_from k (drop k rs)) now ≡ all → new ≡ apply_all s (pops_at k rs) now
      → apply_all s (pops_from (k + 1) (drop (k + 1) rs)) new ≡ all
  pops_more rs k now new all within was made =
      elim (slice_get rs k) as (λ o. slice_get rs k ≡ o → apply_all s (pops_from (k + 1) (drop (k + 1) rs)) new ≡ all) [
        | None ↦ λ e. absurd (missing rs k within e)
        | Some r ↦ λ e.
            ap (apply_all s (pops_from (k + 1) (drop (k + 1) rs))) (made ∙ ap (λ cs. apply_all s cs now) (pops_at_is rs k r e))
            ∙ sym (apply_all-append (pops_of k r) (pops_from (k + 1) (drop (k + 1) rs)) now)
            ∙ from_here rs k r e now all was
      ] refl
