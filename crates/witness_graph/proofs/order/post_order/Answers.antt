use Rattle.std.proofs.Common.{◌≡◌, ℕ, Option, List, [], ◌∷◌, ◌++◌, ◌+◌, length, Some, nat_eq, sym, ap, ◌∙◌, subst, arith}
use Rattle.std.specs.Prelude.{is_some, cond}
use Rattle.witness_graph.specs.Nodes.{named}
use Rattle.witness_graph.specs.private.Paging.{place_on}
use Rattle.witness_graph.specs.private.Walking.{IsWalking, first_new, unlisted}
use Rattle.witness_graph.proofs.WalkLemmas.{walking_popped, walking_top, walking_down, walking_up, walking_lacks, smaller_down, smaller_up, unlisted_less}
use Rattle.witness_graph.proofs.order.post_order.Goals as goal

pub read_node-requires : goal.read_node-requires
read_node-requires c =
    let w = walking_popped c.args.nodes.now c.args.root c.walk.stack.items c.pop.new.self.items c.walk.order.items c.in-Some.number (place_on c.walk.places) c.in-Some.ensures.items c.walk.invariant in
    omega (arith, walking_top c.args.nodes.now c.requires.nodes c.args.root c.pop.new.self.items c.in-Some.number c.walk.order.items (place_on c.walk.places) w)

-- the stack after a walk goes one deeper
deeper : (c : goal.In_ok-push-in-Some-next_unplaced-2) → c.push-in-Some-next_unplaced-2.new.self.items ≡ (c.pop.new.self.items ++ c.in-Some.number ∷ []) ++ c.in-Some-next_unplaced.part ∷ []
deeper c = c.in_ok-push-in-Some-next_unplaced-2.ensures.items ∙ ap (λ s. s ++ c.in-Some-next_unplaced.part ∷ []) c.in_ok-push-in-Some-next_unplaced.ensures.items

pub walk-preserved-in-Continue-branch-3 : goal.walk-preserved-in-Continue-branch-3
walk-preserved-in-Continue-branch-3 c =
    let table : ℕ → Option ℕ = place_on c.walk.places in
    let w = walking_popped c.args.nodes.now c.args.root c.walk.stack.items c.pop.new.self.items c.walk.order.items c.in-Some.number table c.in-Some.ensures.items c.walk.invariant in
    let P : List ℕ → Type 0 = λ s. IsWalking c.args.nodes.now c.args.root s c.walk.order.items table in
    subst P (sym (deeper c))
    (walking_down c.args.nodes.now c.requires.nodes c.args.root c.pop.new.self.items c.in-Some.number c.walk.order.items table w c.in-Some-next_unplaced.part
    (ap (λ n. first_new (λ j. is_some (table j)) (named n)) (sym c.read_node.ensures)
    ∙ sym c.next_unplaced.ensures ∙ c.in-Some-next_unplaced.is))

pub walk-smaller-in-Continue-branch-3 : goal.walk-smaller-in-Continue-branch-3
walk-smaller-in-Continue-branch-3 c =
    smaller_down (unlisted (c.args.root + 1) c.walk.order.items) c.args.root c.walk.stack.items c.pop.new.self.items c.push-in-Some-next_unplaced-2.new.self.items c.walk.order.items
    c.in-Some.number c.in-Some-next_unplaced.part c.in-Some.ensures.items (deeper c) (walk-preserved-in-Continue-branch-3 c).falls

pub walk-preserved : goal.walk-preserved
walk-preserved c =
    let table : ℕ → Option ℕ = place_on c.walk.places in
    let next : ℕ → Option ℕ = place_on c.insert.new.self in
    let w = walking_popped c.args.nodes.now c.args.root c.walk.stack.items c.pop.new.self.items c.walk.order.items c.in-Some.number table c.in-Some.ensures.items c.walk.invariant in
    let count : c.len.result ≡ length c.walk.order.items = omega arith in
    let P : List ℕ → Type 0 = λ o. IsWalking c.args.nodes.now c.args.root c.pop.new.self.items o next in
    let Q : ℕ → Type 0 = λ i. (k : ℕ) → next k ≡ cond (nat_eq c.in-Some.number k) (Some i) (table k) in
    subst P (sym c.in_ok-push-in-None.ensures.items)
    (walking_up c.args.nodes.now c.requires.nodes c.args.root c.pop.new.self.items c.in-Some.number c.walk.order.items table w next
    (subst Q count c.in_ok-insert-in-None.ensures)
    (ap (λ n. first_new (λ j. is_some (table j)) (named n)) (sym c.read_node.ensures)
    ∙ sym c.next_unplaced.ensures ∙ c.in-None.is))

pub walk-smaller : goal.walk-smaller
walk-smaller c =
    let table : ℕ → Option ℕ = place_on c.walk.places in
    let w = walking_popped c.args.nodes.now c.args.root c.walk.stack.items c.pop.new.self.items c.walk.order.items c.in-Some.number table c.in-Some.ensures.items c.walk.invariant in
    let top = walking_top c.args.nodes.now c.requires.nodes c.args.root c.pop.new.self.items c.in-Some.number c.walk.order.items table w in
    let lacks = walking_lacks c.args.nodes.now c.args.root c.pop.new.self.items c.walk.order.items c.in-Some.number table w in
    let less : unlisted (c.args.root + 1) c.push-in-None.new.self.items + 1 ≡ unlisted (c.args.root + 1) c.walk.order.items =
    ap (λ o. unlisted (c.args.root + 1) o + 1) c.in_ok-push-in-None.ensures.items ∙ unlisted_less (c.args.root + 1) c.in-Some.number c.walk.order.items top lacks in
    smaller_up (unlisted (c.args.root + 1) c.walk.order.items) _ c.args.root (length c.walk.stack.items) (length c.pop.new.self.items) less
