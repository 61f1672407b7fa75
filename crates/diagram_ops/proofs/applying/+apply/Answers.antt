use Rattle.std.proofs.Common.{◌≡◌, ℕ, List, ◌+◌, ◌<◌, true, false, sym, ap, subst, ◌∙◌}
use Rattle.diagram_store.specs.declared.branch.Branch.{Branch}
use Rattle.diagram_store.specs.TripleTables.{known}
use Rattle.diagram_ops.specs.private.Applying.{cofactor_of, cofactor, Applies}
use Rattle.diagram_ops.proofs.KeepingLemmas.{keeps_same}
use Rattle.diagram_ops.proofs.ApplyingLemmas.{lowest_read, applies_constant, applies_known, lowest_is, operands_fall, operand_within, applies_at, low_above, low_within, high_above, applies_step}
use Rattle.diagram_ops.proofs.ShortCutLemmas.{applies_at_once}
use Rattle.diagram_ops.proofs.applying.+apply.Goals as goal

pub returns-in_default : goal.returns-in_default
returns-in_default t c =
    applies_constant c.args.table c.args.scratch.now (known c.args.results.now) c.args.x c.args.y c.args.z c.from.result c.value3.result
    c.node-first.ensures.reduced c.requires.results c.requires.x c.requires.y c.requires.z (sym c.in_default.is ∙ (c.lowest.ensures ∙ lowest_read c.args.scratch.now c.args.x c.args.y c.args.z c.node-first.result c.node-second.result c.node-third.result c.node-first.ensures.found c.node-second.ensures.found c.node-third.ensures.found)) c.from.ensures c.value3.ensures

pub returns-in-Some-get : goal.returns-in-Some-get
returns-in-Some-get t c =
    applies_known c.args.table c.args.scratch.now (known c.args.results.now) c.args.x c.args.y c.args.z c.in-Some-get.result
    c.node-first.ensures.reduced c.requires.results (sym c.get.ensures ∙ c.in-Some-get.is)

pub returns-in-Some-short_cut : goal.returns-in-Some-short_cut
returns-in-Some-short_cut t c =
    applies_at_once c.args.table c.args.scratch.now (known c.args.results.now) c.args.x c.args.y c.args.z c.in-Some-short_cut.answer
    c.node-first.ensures.reduced c.requires.results c.requires.x c.requires.y c.requires.z c.in-Some-short_cut.ensures.right

-- the operands where the bit is false
pub apply-requires : goal.apply-requires
apply-requires t c =
    let nodes : List Branch = c.args.scratch.now in
    let v : ℕ = c.in-Some.var in
    let all = c.node-first.ensures.reduced in
    let x : c.cofactors-xs.result.0 ≡ cofactor nodes v false c.args.x = (c.cofactors-xs.ensures.low ∙ ap (cofactor_of (λ k. k) c.in-Some.var false c.args.x) c.node-first.ensures.found) in
    let y : c.cofactors-ys.result.0 ≡ cofactor nodes v false c.args.y = (c.cofactors-ys.ensures.low ∙ ap (cofactor_of (λ k. k) c.in-Some.var false c.args.y) c.node-second.ensures.found) in
    let z : c.cofactors-zs.result.0 ≡ cofactor nodes v false c.args.z = (c.cofactors-zs.ensures.low ∙ ap (cofactor_of (λ k. k) c.in-Some.var false c.args.z) c.node-third.ensures.found) in (
      subst (λ (m : ℕ). (c.cofactors-xs.result.0 + c.cofactors-ys.result.0) + c.cofactors-zs.result.0 < m) c.decreases (operands_fall nodes all c.args.x c.args.y c.args.z v (lowest_is nodes c.args.x c.args.y c.args.z v (sym (c.lowest.ensures ∙ lowest_read c.args.scratch.now c.args.x c.args.y c.args.z c.node-first.result c.node-second.result c.node-third.result c.node-first.ensures.found c.node-second.ensures.found c.node-third.ensures.found) ∙ c.in-Some.is)) false
          c.cofactors-xs.result.0 c.cofactors-ys.result.0 c.cofactors-zs.result.0 (record { first = x; second = y; third = z })),
      (
        operand_within nodes nodes all (keeps_same nodes) v false c.args.x c.cofactors-xs.result.0 c.requires.x x,
        (
          operand_within nodes nodes all (keeps_same nodes) v false c.args.y c.cofactors-ys.result.0 c.requires.y y,
          (operand_within nodes nodes all (keeps_same nodes) v false c.args.z c.cofactors-zs.result.0 c.requires.z z, c.requires.results),
        ),
      ),
    )

low_of : (t : ℕ) (c : goal.After-apply-arg-4-1 t) → Applies c.args.table c.args.scratch.now c.apply.new.scratch (known c.apply.new.results) (cofactor c.args.scratch.now c.in-Some.var false c.args.x)
    (cofactor c.args.scratch.now c.in-Some.var false c.args.y) (cofactor c.args.scratch.now c.in-Some.var false c.args.z) c.in_ok-low.low
low_of t c =
    applies_at c.args.table c.args.scratch.now c.apply.new.scratch (known c.apply.new.results) c.args.scratch.now c.in-Some.var false c.args.x c.args.y c.args.z
    c.cofactors-xs.result.0 c.cofactors-ys.result.0 c.cofactors-zs.result.0 c.in_ok-low.low
    (record { first = (c.cofactors-xs.ensures.low ∙ ap (cofactor_of (λ k. k) c.in-Some.var false c.args.x) c.node-first.ensures.found); second = (c.cofactors-ys.ensures.low ∙ ap (cofactor_of (λ k. k) c.in-Some.var false c.args.y) c.node-second.ensures.found); third = (c.cofactors-zs.ensures.low ∙ ap (cofactor_of (λ k. k) c.in-Some.var false c.args.z) c.node-third.ensures.found) }) c.in_ok-low.ensures

pub apply-requires-2 : goal.apply-requires-2
apply-requires-2 t c =
    let nodes : List Branch = c.args.scratch.now in
    let v : ℕ = c.in-Some.var in
    let all = c.node-first.ensures.reduced in
    let low = low_of t c in
    let x : c.cofactors-xs.result.1 ≡ cofactor nodes v true c.args.x = (c.cofactors-xs.ensures.high ∙ ap (cofactor_of (λ k. k) c.in-Some.var true c.args.x) c.node-first.ensures.found) in
    let y : c.cofactors-ys.result.1 ≡ cofactor nodes v true c.args.y = (c.cofactors-ys.ensures.high ∙ ap (cofactor_of (λ k. k) c.in-Some.var true c.args.y) c.node-second.ensures.found) in
    let z : c.cofactors-zs.result.1 ≡ cofactor nodes v true c.args.z = (c.cofactors-zs.ensures.high ∙ ap (cofactor_of (λ k. k) c.in-Some.var true c.args.z) c.node-third.ensures.found) in (
      subst (λ (m : ℕ). (c.cofactors-xs.result.1 + c.cofactors-ys.result.1) + c.cofactors-zs.result.1 < m) c.decreases (operands_fall nodes all c.args.x c.args.y c.args.z v (lowest_is nodes c.args.x c.args.y c.args.z v (sym (c.lowest.ensures ∙ lowest_read c.args.scratch.now c.args.x c.args.y c.args.z c.node-first.result c.node-second.result c.node-third.result c.node-first.ensures.found c.node-second.ensures.found c.node-third.ensures.found) ∙ c.in-Some.is)) true
          c.cofactors-xs.result.1 c.cofactors-ys.result.1 c.cofactors-zs.result.1 (record { first = x; second = y; third = z })),
      (
        operand_within nodes c.apply.new.scratch all low.keeps v true c.args.x c.cofactors-xs.result.1 c.requires.x x,
        (
          operand_within nodes c.apply.new.scratch all low.keeps v true c.args.y c.cofactors-ys.result.1 c.requires.y y,
          (operand_within nodes c.apply.new.scratch all low.keeps v true c.args.z c.cofactors-zs.result.1 c.requires.z z, low.known),
        ),
      ),
    )

pub branch-scratch-requires-clause-low : goal.branch-scratch-requires-clause-low
branch-scratch-requires-clause-low t c =
    let nodes : List Branch = c.args.scratch.now in
    let v : ℕ = c.in-Some.var in
    let low = applies_at c.args.table nodes c.apply.new.scratch (known c.apply.new.results) nodes v false c.args.x c.args.y c.args.z
    c.cofactors-xs.result.0 c.cofactors-ys.result.0 c.cofactors-zs.result.0 c.in_ok-low.low
    (record { first = (c.cofactors-xs.ensures.low ∙ ap (cofactor_of (λ k. k) c.in-Some.var false c.args.x) c.node-first.ensures.found); second = (c.cofactors-ys.ensures.low ∙ ap (cofactor_of (λ k. k) c.in-Some.var false c.args.y) c.node-second.ensures.found); third = (c.cofactors-zs.ensures.low ∙ ap (cofactor_of (λ k. k) c.in-Some.var false c.args.z) c.node-third.ensures.found) }) c.in_ok-low.ensures in
    let high = applies_at c.args.table c.apply.new.scratch c.apply-2.new.scratch (known c.apply-2.new.results) nodes v true c.args.x c.args.y c.args.z
    c.cofactors-xs.result.1 c.cofactors-ys.result.1 c.cofactors-zs.result.1 c.in_ok-high.high
    (record { first = (c.cofactors-xs.ensures.high ∙ ap (cofactor_of (λ k. k) c.in-Some.var true c.args.x) c.node-first.ensures.found); second = (c.cofactors-ys.ensures.high ∙ ap (cofactor_of (λ k. k) c.in-Some.var true c.args.y) c.node-second.ensures.found); third = (c.cofactors-zs.ensures.high ∙ ap (cofactor_of (λ k. k) c.in-Some.var true c.args.z) c.node-third.ensures.found) }) c.in_ok-high.ensures in
    let lowest = lowest_is nodes c.args.x c.args.y c.args.z v (sym (c.lowest.ensures ∙ lowest_read c.args.scratch.now c.args.x c.args.y c.args.z c.node-first.result c.node-second.result c.node-third.result c.node-first.ensures.found c.node-second.ensures.found c.node-third.ensures.found) ∙ c.in-Some.is) in
    low_within c.args.table nodes c.node-first.ensures.reduced c.args.x c.args.y c.args.z v c.requires.x c.requires.y c.requires.z lowest
    c.apply.new.scratch (known c.apply.new.results) c.in_ok-low.low low c.apply-2.new.scratch (known c.apply-2.new.results) c.in_ok-high.high high

pub branch-scratch-requires-clause-low_above : goal.branch-scratch-requires-clause-low_above
branch-scratch-requires-clause-low_above t c =
    let nodes : List Branch = c.args.scratch.now in
    let v : ℕ = c.in-Some.var in
    let low = applies_at c.args.table nodes c.apply.new.scratch (known c.apply.new.results) nodes v false c.args.x c.args.y c.args.z
    c.cofactors-xs.result.0 c.cofactors-ys.result.0 c.cofactors-zs.result.0 c.in_ok-low.low
    (record { first = (c.cofactors-xs.ensures.low ∙ ap (cofactor_of (λ k. k) c.in-Some.var false c.args.x) c.node-first.ensures.found); second = (c.cofactors-ys.ensures.low ∙ ap (cofactor_of (λ k. k) c.in-Some.var false c.args.y) c.node-second.ensures.found); third = (c.cofactors-zs.ensures.low ∙ ap (cofactor_of (λ k. k) c.in-Some.var false c.args.z) c.node-third.ensures.found) }) c.in_ok-low.ensures in
    let high = applies_at c.args.table c.apply.new.scratch c.apply-2.new.scratch (known c.apply-2.new.results) nodes v true c.args.x c.args.y c.args.z
    c.cofactors-xs.result.1 c.cofactors-ys.result.1 c.cofactors-zs.result.1 c.in_ok-high.high
    (record { first = (c.cofactors-xs.ensures.high ∙ ap (cofactor_of (λ k. k) c.in-Some.var true c.args.x) c.node-first.ensures.found); second = (c.cofactors-ys.ensures.high ∙ ap (cofactor_of (λ k. k) c.in-Some.var true c.args.y) c.node-second.ensures.found); third = (c.cofactors-zs.ensures.high ∙ ap (cofactor_of (λ k. k) c.in-Some.var true c.args.z) c.node-third.ensures.found) }) c.in_ok-high.ensures in
    let lowest = lowest_is nodes c.args.x c.args.y c.args.z v (sym (c.lowest.ensures ∙ lowest_read c.args.scratch.now c.args.x c.args.y c.args.z c.node-first.result c.node-second.result c.node-third.result c.node-first.ensures.found c.node-second.ensures.found c.node-third.ensures.found) ∙ c.in-Some.is) in
    low_above c.args.table nodes c.node-first.ensures.reduced c.args.x c.args.y c.args.z v c.requires.x c.requires.y c.requires.z lowest
    c.apply.new.scratch (known c.apply.new.results) c.in_ok-low.low low c.apply-2.new.scratch (known c.apply-2.new.results) c.in_ok-high.high high

pub branch-scratch-requires-clause-high_above : goal.branch-scratch-requires-clause-high_above
branch-scratch-requires-clause-high_above t c =
    let nodes : List Branch = c.args.scratch.now in
    let v : ℕ = c.in-Some.var in
    let low = applies_at c.args.table nodes c.apply.new.scratch (known c.apply.new.results) nodes v false c.args.x c.args.y c.args.z
    c.cofactors-xs.result.0 c.cofactors-ys.result.0 c.cofactors-zs.result.0 c.in_ok-low.low
    (record { first = (c.cofactors-xs.ensures.low ∙ ap (cofactor_of (λ k. k) c.in-Some.var false c.args.x) c.node-first.ensures.found); second = (c.cofactors-ys.ensures.low ∙ ap (cofactor_of (λ k. k) c.in-Some.var false c.args.y) c.node-second.ensures.found); third = (c.cofactors-zs.ensures.low ∙ ap (cofactor_of (λ k. k) c.in-Some.var false c.args.z) c.node-third.ensures.found) }) c.in_ok-low.ensures in
    let high = applies_at c.args.table c.apply.new.scratch c.apply-2.new.scratch (known c.apply-2.new.results) nodes v true c.args.x c.args.y c.args.z
    c.cofactors-xs.result.1 c.cofactors-ys.result.1 c.cofactors-zs.result.1 c.in_ok-high.high
    (record { first = (c.cofactors-xs.ensures.high ∙ ap (cofactor_of (λ k. k) c.in-Some.var true c.args.x) c.node-first.ensures.found); second = (c.cofactors-ys.ensures.high ∙ ap (cofactor_of (λ k. k) c.in-Some.var true c.args.y) c.node-second.ensures.found); third = (c.cofactors-zs.ensures.high ∙ ap (cofactor_of (λ k. k) c.in-Some.var true c.args.z) c.node-third.ensures.found) }) c.in_ok-high.ensures in
    let lowest = lowest_is nodes c.args.x c.args.y c.args.z v (sym (c.lowest.ensures ∙ lowest_read c.args.scratch.now c.args.x c.args.y c.args.z c.node-first.result c.node-second.result c.node-third.result c.node-first.ensures.found c.node-second.ensures.found c.node-third.ensures.found) ∙ c.in-Some.is) in
    high_above c.args.table nodes c.node-first.ensures.reduced c.args.x c.args.y c.args.z v c.requires.x c.requires.y c.requires.z lowest
    c.apply.new.scratch (known c.apply.new.results) c.in_ok-low.low low c.apply-2.new.scratch (known c.apply-2.new.results) c.in_ok-high.high high

pub returns : goal.returns
returns t c =
    let nodes : List Branch = c.args.scratch.now in
    let v : ℕ = c.in-Some.var in
    let low = applies_at c.args.table nodes c.apply.new.scratch (known c.apply.new.results) nodes v false c.args.x c.args.y c.args.z
    c.cofactors-xs.result.0 c.cofactors-ys.result.0 c.cofactors-zs.result.0 c.in_ok-low.low
    (record { first = (c.cofactors-xs.ensures.low ∙ ap (cofactor_of (λ k. k) c.in-Some.var false c.args.x) c.node-first.ensures.found); second = (c.cofactors-ys.ensures.low ∙ ap (cofactor_of (λ k. k) c.in-Some.var false c.args.y) c.node-second.ensures.found); third = (c.cofactors-zs.ensures.low ∙ ap (cofactor_of (λ k. k) c.in-Some.var false c.args.z) c.node-third.ensures.found) }) c.in_ok-low.ensures in
    let high = applies_at c.args.table c.apply.new.scratch c.apply-2.new.scratch (known c.apply-2.new.results) nodes v true c.args.x c.args.y c.args.z
    c.cofactors-xs.result.1 c.cofactors-ys.result.1 c.cofactors-zs.result.1 c.in_ok-high.high
    (record { first = (c.cofactors-xs.ensures.high ∙ ap (cofactor_of (λ k. k) c.in-Some.var true c.args.x) c.node-first.ensures.found); second = (c.cofactors-ys.ensures.high ∙ ap (cofactor_of (λ k. k) c.in-Some.var true c.args.y) c.node-second.ensures.found); third = (c.cofactors-zs.ensures.high ∙ ap (cofactor_of (λ k. k) c.in-Some.var true c.args.z) c.node-third.ensures.found) }) c.in_ok-high.ensures in
    let lowest = lowest_is nodes c.args.x c.args.y c.args.z v (sym (c.lowest.ensures ∙ lowest_read c.args.scratch.now c.args.x c.args.y c.args.z c.node-first.result c.node-second.result c.node-third.result c.node-first.ensures.found c.node-second.ensures.found c.node-third.ensures.found) ∙ c.in-Some.is) in
    applies_step c.args.table nodes c.node-first.ensures.reduced c.args.x c.args.y c.args.z v c.requires.x c.requires.y c.requires.z lowest
    c.apply.new.scratch (known c.apply.new.results) c.in_ok-low.low low c.apply-2.new.scratch (known c.apply-2.new.results) c.in_ok-high.high high
    c.branch-scratch.new.self c.branch-scratch.ensures.reduced c.branch-scratch.ensures.keeps c.in_ok-result.result c.in_ok-result.ensures.stands (known c.insert.new.self) c.in_ok-insert.ensures.ok
