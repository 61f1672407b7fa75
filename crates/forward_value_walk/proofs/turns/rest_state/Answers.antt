use Rattle.std.proofs.Common.{inl, inr, ℕ, sym, subst, arith}
use Rattle.std.specs.Prelude.{IsTrue}
use Rattle.config_patterns.specs.Edges.{is_final_of}
use Rattle.forward_value_walk.proofs.StopLemmas.{final_last}
use Rattle.forward_value_walk.proofs.turns.rest_state.Goals as goal

pub returns-then-takes_all : goal.returns-then-takes_all
returns-then-takes_all g c =
    let items = c.args.wanted.now.items in
    let last = c.items-last.result in
    let F : ℕ → Type 0 = λ n. IsTrue (is_final_of items n) in
    let first = c.if-ways-last.false in
    let end = c.if-ways-last-2.false in
    let ours = c.symbols.ensures.value in
    let few = c.if-symbols.false in
    let theirs = c.symbols-else-symbols.ensures.value in
    let few' = c.if-symbols-2.false in (
      subst F (sym c.items-last.ensures.value) (final_last items),
      λ h has. (c.ways_from-ways.ensures.edges h last).1 (
        omega (arith, first),
        omega (arith, end),
        (
          c.item.result.now,
          c.item.ensures.item,
          c.takes_all.ensures c.if-takes_all.true h (elim has [ inl low ↦ omega (arith, low, theirs, few') | inr low ↦ omega (arith, low, ours, few) ]),
        ),
      ),
    )
