use Rattle.std.proofs.Common.{◌≡◌, ℕ, ◌+◌, ◌-◌, List, sym, subst, arith}
use Rattle.diagram_store.specs.declared.branch.Branch.{Branch}
use Rattle.diagram_store.specs.Canonical.{IsCanonical}
use Rattle.relation_weights.specs.private.Frames.{IsFrame}
use Rattle.relation_weights.proofs.FrameLemmas.{frame_begun, frame_canonical}
use Rattle.relation_weights.proofs.frames.frame.Goals as goal

pub loop-k-init : goal.loop-k-init
loop-k-init c =
    let is : c.args.n ≡ c.args.n - 0 = omega arith in
    let P : ℕ → Type 0 = λ j. IsFrame c.args.n c.args.freed.now j 1 c.in_ok-nodes.nodes.items in
    subst P is (frame_begun c.args.n c.args.freed.now c.in_ok-nodes.nodes.items c.in_ok-nodes.ensures.items)

pub loop-k-preserved : goal.loop-k-preserved
loop-k-preserved c =
    let before : c.args.n - c.loop-k.k ≡ c.args.n - 1 - c.loop-k.k + 1 = omega arith in
    let after : c.args.n - 1 - c.loop-k.k ≡ c.args.n - (c.loop-k.k + 1) = omega arith in
    let P : ℕ → Type 0 = λ j. IsFrame c.args.n c.args.freed.now j c.loop-k.root c.loop-k.nodes.items in
    let Q : ℕ → Type 0 = λ j. IsFrame c.args.n c.args.freed.now j c.in_ok-root.root c.add_number.new.nodes.items in
    subst Q after (c.in_ok-root.ensures c.args.n (omega arith) (subst P before c.loop-k.invariant))

pub invariant_of-result : goal.invariant_of-result
invariant_of-result c =
    let whole : c.args.n - c.loop-k.k ≡ 0 = omega arith in
    let P : ℕ → Type 0 = λ j. IsFrame c.args.n c.args.freed.now j c.loop-k.root c.loop-k.nodes.items in
    let Q : List Branch → Type 0 = λ l. IsCanonical c.loop-k.root l in
    record { is_canonical = subst Q (sym c.from_vec.ensures) (frame_canonical c.args.n c.args.freed.now c.loop-k.root c.loop-k.nodes.items (subst P whole c.loop-k.invariant)) }
