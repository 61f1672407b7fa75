-- Relations as references into one table.
use Rattle.std.proofs.Common.{◌≡◌, ℕ, ◌+◌, ◌*◌, ◌<◌, ◌↔◌, Bool, ◌&&◌, ◌||◌, List, length, refl, sym, ap, ap₂, ◌∙◌, subst, arith}
use Rattle.std.specs.Prelude.{IsTrue, nat_eq}
use Rattle.std.proofs.lemmas.Bool.{eqb-true, eq-eqb}
use Rattle.diagram_store.specs.declared.branch.Branch.{Branch}
use Rattle.diagram_store.specs.Nodes.{HasVariablesBelow, IsReduced}
use Rattle.diagram_store.specs.Meaning.{value_at, TellsReferences}
use Rattle.diagram_store.proofs.CallerLemmas.{reads_below, value_at_end}
use Rattle.diagram_ops.specs.Relations.{of_states}
use Rattle.diagram_ops.specs.NodeTables.{leads_at, Keeps, LeadsThrough}
use Rattle.diagram_ops.proofs.CallerLemmas.{keeps_value, keeps_within, same_bits}
use Rattle.relation_laws.specs.Building.{Parts}
use Rattle.relation_laws.specs.States.{old_state, new_state}
use Rattle.relation_laws.specs.Relations.{Pairs, ReadsPairs, leads, relation_of, union, composition, no_pairs, returned}
use Rattle.relation_laws.proofs.CallerLemmas.{FitsIn, leads_of, pairs_same, relation_fits, states_agree, states_of_bits}
use Rattle.relation_weights.specs.Moves.{moved, kept}
use Rattle.relation_weights.specs.declared.nodes.ReturnNodes.TheVariants.{Both}
use Rattle.relation_weights.specs.declared.rel_map.Slot.{Slot}
use Rattle.relation_weights.specs.declared.rel_map.RelMap.TheVariants.{Slots}
use Rattle.relation_weights.specs.Relations.{after_of, map_fits, relation_operations, source_of}
use Rattle.relation_weights.specs.RelationLaws.{source_reads}
use Rattle.relation_weights.specs.RelationNodes.{NodesOf, AreRelations, HasMore, HasReturnParts, IsReference, IsReturnBy, relation_at}
use Rattle.relation_weights.specs.private.KeptNodes.{AreKept}
use Rattle.relation_weights.proofs.OperationLemmas.{composed}
use Rattle.relation_weights.proofs.ReturnLemmas.{returned_is}

-- Reduced nodes over the old and the new values of n bits.
module _ (n : ℕ) (nodes : List Branch) (reduced : IsReduced nodes) (below : HasVariablesBelow (2 * n) nodes) where
  abbrev at : ℕ → Parts
  at r = relation_of n (leads_at nodes r)

  pub reads_at : (r : ℕ) → ReadsPairs n (leads_at nodes r)
  reads_at r x y x' y' a b = reads_below (2 * n) nodes reduced r below (of_states x y) (of_states x' y') (states_agree n x y x' y' a b)

  -- the relation of a reference leads as the reference does
  pub at_leads : (r : ℕ) (x y : ℕ → Bool) → leads (at r) x y ≡ leads_at nodes r x y
  at_leads r x y = leads_of n (leads_at nodes r) (reads_at r) x y

  pub at_fits : (r : ℕ) → FitsIn n (at r)
  at_fits r = relation_fits n (leads_at nodes r)

  value_is : (r : ℕ) (bits : ℕ → Bool) → value_at nodes r bits ≡ leads_at nodes r (old_state bits) (new_state bits)
  value_is r bits = same_bits nodes reduced r bits (of_states (old_state bits) (new_state bits)) (λ v. sym (states_of_bits bits v))

  -- references are one where their relations are
  pub same_at : TellsReferences nodes → (r s : ℕ) → r < length nodes + 2 → s < length nodes + 2 → IsTrue (nat_eq r s) ↔ (at r ≡ at s)
  same_at tells r s rw sw = (
    λ yes. ap at (eqb-true r s yes),
    λ same. eq-eqb r s (tells r s rw sw (λ bits.
        value_is r bits ∙ sym (at_leads r (old_state bits) (new_state bits)) ∙ ap (λ w. leads w (old_state bits) (new_state bits)) same
        ∙ at_leads s (old_state bits) (new_state bits) ∙ sym (value_is s bits))),
  )

  -- false has no pairs, and no other reference has none
  pub empty_at : TellsReferences nodes → (r : ℕ) → r < length nodes + 2 → IsTrue (nat_eq r 0) ↔ (at r ≡ relation_of n no_pairs)
  empty_at tells r w =
      let none : at 0 ≡ relation_of n no_pairs = pairs_same n (leads_at nodes 0) no_pairs (λ x y. value_at_end nodes 0 (of_states x y) refl) in
      let same = same_at tells r 0 w (omega arith) in
      (λ yes. same.0 yes ∙ none, λ is. same.1 (is ∙ sym none))

  -- the operations, by how references lead
  pub united_at : (a b : ℕ) (p : Pairs) → ((x y : ℕ → Bool) → p x y ≡ (leads_at nodes a x y || leads_at nodes b x y)) → relation_of n p ≡ relation_of n (union (leads (at a)) (leads (at b)))
  united_at a b p is = pairs_same n p (union (leads (at a)) (leads (at b))) (λ x y. is x y ∙ ap₂ (λ s t. s || t) (sym (at_leads a x y)) (sym (at_leads b x y)))

  pub composed_at : (a b : ℕ) (p : Pairs) → ((x z : ℕ → Bool) → IsTrue (p x z) ↔ ((y : ℕ → Bool) × IsTrue (leads_at nodes a x y) × IsTrue (leads_at nodes b y z)))
      → relation_of n p ≡ relation_of n (composition n (leads (at a)) (leads (at b)))
  composed_at a b p is = pairs_same n p (composition n (leads (at a)) (leads (at b))) (λ x z.
      composed n (at a) (at b) (at_fits a) (at_fits b) (leads_at nodes a) (leads_at nodes b)
      (λ u v. sym (at_leads a u v)) (λ u v. sym (at_leads b u v)) (p x z) x z (is x z))

-- As nodes are added.
module _ (n : ℕ) (old new : List Branch) (before : IsReduced old) (after : IsReduced new) (keeps : Keeps old new) where
  pub more_kept : HasMore (record { bits = n; nodes = old }) (record { bits = n; nodes = new })
  more_kept = record {
    bits = refl;
    within = λ r w. keeps_within old new keeps r w;
    stays = λ r w x y. keeps_value old before new after keeps r w (of_states x y);
  }

  pub kept_more : (stay : ℕ) → HasVariablesBelow (2 * n) new → AreKept (record { bits = n; nodes = old }) stay → AreKept (record { bits = n; nodes = new }) stay
  kept_more stay below kept = record {
    few = kept.few;
    below = below;
    within = keeps_within old new keeps stay kept.within;
    stays = λ x y. keeps_value old before new after keeps stay kept.within (of_states x y) ∙ kept.stays x y;
  }

pub more_both : (a b c : NodesOf) → HasMore a b → HasMore b c → HasMore a c
more_both a b c one two = record {
  bits = two.bits ∙ one.bits;
  within = λ r w. two.within r (one.within r w);
  stays = λ r w x y. two.stays r (one.within r w) x y ∙ one.stays r w x y;
}

module _ (old new : NodesOf) (more : HasMore old new) where
  pub more_relation : (r : ℕ) → IsReference old r → relation_at new r ≡ relation_at old r
  more_relation r w = ap (λ n. relation_of n (leads_at new.nodes r)) more.bits ∙ pairs_same old.bits (leads_at new.nodes r) (leads_at old.nodes r) (more.stays r w)

  pub union_value : AreRelations new → (a b r : ℕ) → IsReference old a → IsReference old b
      → ((x y : ℕ → Bool) → leads_at new.nodes r x y ≡ (leads_at new.nodes a x y || leads_at new.nodes b x y))
      → relation_at new r ≡ (relation_operations old.bits).combine (relation_at old a) (relation_at old b)
  union_value are a b r wa wb is =
      united_at new.bits new.nodes are.reduced are.below a b (leads_at new.nodes r) is
      ∙ ap₂ (λ s t. relation_of new.bits (union (leads s) (leads t))) (more_relation a wa) (more_relation b wb)
      ∙ ap (λ n. relation_of n (union (leads (relation_at old a)) (leads (relation_at old b)))) more.bits

  pub composition_value : AreRelations new → (a b r : ℕ) → IsReference old a → IsReference old b
      → ((x z : ℕ → Bool) → IsTrue (leads_at new.nodes r x z) ↔ LeadsThrough new.nodes a b x z)
      → relation_at new r ≡ (relation_operations old.bits).extend (relation_at old a) (relation_at old b)
  composition_value are a b r wa wb is =
      composed_at new.bits new.nodes are.reduced are.below a b (leads_at new.nodes r) is
      ∙ ap₂ (λ s t. relation_of new.bits (composition new.bits (leads s) (leads t))) (more_relation a wa) (more_relation b wb)
      ∙ ap (λ n. relation_of n (composition n (leads (relation_at old a)) (leads (relation_at old b)))) more.bits

-- What is returned by the parts of a map: a composition, and then an intersection.
pub return_value : (old middle new : NodesOf) → HasMore old middle → HasMore middle new → AreRelations old → (slots : List Slot) → IsTrue (map_fits old.bits (Slots slots))
    → (a moves stays led r : ℕ) → IsReference old a → HasReturnParts old slots moves stays → IsReference middle led
    → ((x z : ℕ → Bool) → IsTrue (leads_at middle.nodes led x z) ↔ LeadsThrough middle.nodes a moves x z)
    → ((x y : ℕ → Bool) → leads_at new.nodes r x y ≡ (leads_at new.nodes led x y && leads_at new.nodes stays x y))
    → relation_at new r ≡ after_of old.bits (Slots slots) (relation_at old a)
return_value old middle new one two are slots fit a moves stays led r wa parts wl through both =
    let both_more = more_both old middle new one two in
    let w = relation_at old a in
    let leads_a = at_leads old.bits old.nodes are.reduced are.below a in
    ap (λ n. relation_of n (leads_at new.nodes r)) both_more.bits
    ∙ pairs_same old.bits (leads_at new.nodes r) (returned old.bits (source_of slots) (leads w)) (λ x y.
    both x y
    ∙ ap (λ b. b && leads_at new.nodes stays x y) (two.stays led wl x y)
    ∙ returned_is old.bits slots (source_reads old.bits slots fit) w (at_fits old.bits old.nodes are.reduced are.below a)
    (leads_at middle.nodes a) (λ u v. one.stays a wa u v ∙ sym (leads_a u v))
    (leads_at middle.nodes moves) (λ u v. one.stays moves parts.moves_within u v ∙ parts.moves_lead u v)
    (leads_at middle.nodes led x y) (leads_at new.nodes stays x y) x y
    (through x y)
    (both_more.stays stays parts.stays_within x y ∙ parts.stays_lead x y))

pub loaded_value : (old new : NodesOf) → HasMore old new → (w : Parts) → FitsIn old.bits w → (r : ℕ) → ((x y : ℕ → Bool) → leads_at new.nodes r x y ≡ leads w x y) → relation_at new r ≡ w
loaded_value old new more w fit r is = ap (λ n. relation_of n (leads_at new.nodes r)) more.bits ∙ pairs_same old.bits (leads_at new.nodes r) (leads w) is ∙ fit

-- the parts of a return map, once both are loaded
pub return_parts : (old middle new : NodesOf) → HasMore old middle → HasMore middle new → (slots : List Slot) → IsTrue (map_fits old.bits (Slots slots))
    → (moves stays : ℕ) → IsReference middle moves → IsReference new stays
    → ((x y : ℕ → Bool) → leads_at middle.nodes moves x y ≡ moved old.bits slots x y) → ((x y : ℕ → Bool) → leads_at new.nodes stays x y ≡ kept old.bits slots x y)
    → IsReturnBy new (Slots slots) (Both moves stays)
return_parts old middle new one two slots fit moves stays wm ws leads_moves leads_stays =
    let same = (more_both old middle new one two).bits in (
      slots,
      refl,
      subst (λ n. IsTrue (map_fits n (Slots slots))) (sym same) fit,
      record {
        moves_within = two.within moves wm;
        stays_within = ws;
        moves_lead = λ x y. two.stays moves wm x y ∙ leads_moves x y ∙ ap (λ n. moved n slots x y) (sym same);
        stays_lead = λ x y. leads_stays x y ∙ ap (λ n. kept n slots x y) (sym same);
      },
    )
