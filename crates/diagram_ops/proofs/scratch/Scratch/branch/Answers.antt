use Rattle.std.proofs.Common.{ℕ, List, ◌∷◌, [], ◌++◌, ◌+◌, ◌<◌, length, sym, ap, ◌∙◌, subst, arith}
use Rattle.diagram_store.specs.declared.branch.Branch.{Branch}
use Rattle.diagram_store.specs.Nodes.{IsAbove}
use Rattle.diagram_store.specs.TripleTables.{known}
use Rattle.diagram_ops.specs.private.Scratch.{Keeps}
use Rattle.diagram_ops.proofs.PushLemmas.{Pushed, scratch_push, stands_found}
use Rattle.diagram_ops.proofs.scratch.Scratch.branch.Goals as goal

pub returns-in-Some-clause-stands : goal.returns-in-Some-clause-stands
returns-in-Some-clause-stands c =
    stands_found (known c.self.inside.places) c.self.inside.nodes.items c.args.self.now c.in-Some.known c.args.var c.args.low c.args.high c.from.result
    c.self.invariant c.self.view_is c.from.ensures (sym c.get.ensures ∙ c.in-Some.is)

pushed : (c : goal.In_ok-push) → Pushed (known c.insert.new.self) c.self.inside.nodes.items c.push.new.self.items (c.len.result + 2) c.args.var c.args.low c.args.high
pushed c =
    let nodes : List Branch = c.self.inside.nodes.items in
    let W : ℕ → List Branch → Type 0 = λ r l. r < length l + 2 in
    scratch_push (known c.self.inside.places) (known c.insert.new.self) nodes c.push.new.self.items (c.len.result + 2) c.args.var c.args.low c.args.high c.from.result c.from-2.result
    c.self.invariant
    (c.in_ok-push.ensures.items ∙ ap (λ l. l ++ record { var = c.args.var; low = c.args.low; high = c.args.high } ∷ []) c.reserve.ensures.items)
    (omega arith)
    (subst (W c.args.low) (sym c.self.view_is) c.requires.low)
    (subst (W c.args.high) (sym c.self.view_is) c.requires.high)
    (let P : List Branch → Type 0 = λ l. IsAbove l c.args.var c.args.low in subst P (sym c.self.view_is) c.requires.low_above)
    (let P : List Branch → Type 0 = λ l. IsAbove l c.args.var c.args.high in subst P (sym c.self.view_is) c.requires.high_above)
    c.if-low-high.false
    c.from.ensures
    (sym c.get.ensures ∙ c.in_default.is)
    c.from-2.ensures
    c.in_ok-insert.ensures.ok

pub invariant_of-self-2 : goal.invariant_of-self-2
invariant_of-self-2 c = (pushed c).scratch

pub returns-clause-reduced : goal.returns-clause-reduced
returns-clause-reduced c = (pushed c).scratch.reduced

pub returns-clause-keeps : goal.returns-clause-keeps
returns-clause-keeps c = let P : List Branch → Type 0 = λ l. Keeps l c.push.new.self.items in subst P c.self.view_is (pushed c).keeps

pub returns-clause-stands : goal.returns-clause-stands
returns-clause-stands c = (pushed c).stands
