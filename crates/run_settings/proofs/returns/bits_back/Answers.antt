use Rattle.std.proofs.Common.{◌≡◌, ◌↔◌, ℕ, ◌+◌, Bool, false, List, Vec, Global, ◌++◌, ◌∷◌, [], get_or, refl, sym, ap, ◌∙◌, subst, arith}
use Rattle.relation_weights.specs.declared.rel_map.Slot.TheVariants.{Caller, Callee}
use Rattle.relation_picks.specs.Picks.{AreBitsBelow, HasBits}
use Rattle.run_settings.specs.Settings.{slot_at}
use Rattle.run_settings.proofs.SlotLemmas.{slot_below, below_push, back_callee, back_caller, ComeBack}
use Rattle.run_settings.proofs.returns.bits_back.Goals as goal
use Rattle.run_settings.proofs.returns.bits_back.Goals.{in-Callee+in_ok-push, in_default}

pub loop-k-preserved : goal.loop-k-preserved
loop-k-preserved c =
    let n = c.args.n in
    let h = c.args.map.now in
    let behind = c.args.behind.now in
    let k = c.loop-k.k in
    let old = c.loop-k.wanted.items in
    elim c.match-slot_at.branch [
      | in-Callee+in_ok-push w ↦
          let u = w.in-Callee.from in
          let b = get_or behind k false in
          let is : slot_at h k ≡ Callee u = sym w.in-Callee.ensures in
          let new : c.match-slot_at.wanted.items ≡ old ++ (u, b) ∷ [] = ap (λ (v : Vec (ℕ × Bool) Global). v.items) w.wanted-is ∙ w.in_ok-push.ensures.items ∙ ap (λ v. old ++ (v, b) ∷ []) w.from.ensures in record {
            below = subst (AreBitsBelow n) (sym new) (below_push n old u b (slot_below n h c.requires.map k u c.loop-k-test.true is) c.loop-k.invariant.below);
            bits = λ y.
                subst (λ (l : List (ℕ × Bool)). HasBits l y ↔ ComeBack h behind (k + 1) y) (sym new)
                (back_callee h behind k old y (c.loop-k.invariant.bits y) u b is refl);
          }
      | in_default w ↦
          let is : slot_at h k ≡ Caller = sym w.in_default.ensures in
          let new : c.match-slot_at.wanted.items ≡ old = ap (λ (v : Vec (ℕ × Bool) Global). v.items) w.wanted-is in record {
            below = subst (AreBitsBelow n) (sym new) c.loop-k.invariant.below;
            bits = λ y.
                subst (λ (l : List (ℕ × Bool)). HasBits l y ↔ ComeBack h behind (k + 1) y) (sym new)
                (back_caller h behind k old y (c.loop-k.invariant.bits y) is);
          }
    ]

pub returns-clause-bits : goal.returns-clause-bits
returns-clause-bits c = λ y.
    let end : c.loop-k.k ≡ c.args.n = omega arith in
    subst (λ i. HasBits c.loop-k.wanted.items y ↔ ComeBack c.args.map.now c.args.behind.now i y) end (c.loop-k.invariant.bits y)
