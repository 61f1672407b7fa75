use Rattle.std.proofs.Common.{ℕ, ◌≡◌, ◌<◌, ◌+◌, ◌*◌, ap, sym, ◌∙◌, arith}
use Rattle.diagram_store.specs.Meaning.{bits_of}
use Rattle.diagram_ops.specs.Relations.{of_states}
use Rattle.relation_laws.proofs.CallerLemmas.{old_of_states, new_of_states}
use Rattle.relation_picks.proofs.PairLemmas.{below_of, pair_leads}
use Rattle.relation_picks.proofs.ends.pick_pair.Goals as goal

pub pick-requires : goal.pick-requires
pick-requires c = below_of c.args.n c.args.w.now c.requires.fits c.diagram.result.now.nodes c.diagram.ensures.nodes

pub returns : goal.returns
returns c =
    let n = c.args.n in
    let found = rw c.in-Some.is at c.in_ok-bits.ensures in
    let bits = bits_of c.in-Some.bits in
    let from = bits_of c.in_ok-from.from in
    let to = bits_of c.in_ok-to.to in
    let old : (i : ℕ) → i < n → from i ≡ bits (2 * i) =
    λ i below.
    let at : 2 * i + 0 ≡ 2 * i = omega arith in
    c.in_ok-from.ensures.bits i below ∙ ap (λ l. bits_of l (2 * i + 0)) c.as_slice.ensures ∙ ap bits at in
    let new : (i : ℕ) → i < n → to i ≡ bits (2 * i + 1) =
    λ i below. c.in_ok-to.ensures.bits i below ∙ ap (λ l. bits_of l (2 * i + 1)) c.as_slice-2.ensures in (
      c.in_ok-from.ensures.long,
      c.in_ok-to.ensures.long,
      sym (pair_leads n c.diagram.result.now c.args.w.now c.diagram.ensures.root c.diagram.ensures.nodes c.requires.fits bits from to old new) ∙ found.1,
    )

pub returns-in_default : goal.returns-in_default
returns-in_default c = λ x y.
    let none = rw c.in_default.is at c.in_ok-bits.ensures in
    sym (pair_leads c.args.n c.diagram.result.now c.args.w.now c.diagram.ensures.root c.diagram.ensures.nodes c.requires.fits (of_states x y) x y
    (λ i _. sym (old_of_states x y i)) (λ i _. sym (new_of_states x y i)))
    ∙ none (of_states x y)
