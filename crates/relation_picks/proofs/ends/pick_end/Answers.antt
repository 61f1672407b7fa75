use Rattle.std.proofs.Common.{◌+◌, ◌*◌, ap, sym, ◌∙◌}
use Rattle.std.proofs.lemmas.Bool.{false≢true}
use Rattle.std.proofs.lemmas.Result.{IfOk-weaker}
use Rattle.diagram_store.specs.Meaning.{bits_of}
use Rattle.diagram_ops.specs.Relations.{of_states}
use Rattle.relation_laws.proofs.CallerLemmas.{new_of_states}
use Rattle.relation_picks.proofs.PairLemmas.{below_of, led_leads}
use Rattle.relation_picks.proofs.ends.pick_end.Goals as goal

pub pick-requires : goal.pick-requires
pick-requires c =
    let n = c.args.n in
    c.in_ok-met.ensures.variables n c.requires.wanted
    (c.in_ok-led.ensures.variables (2 * n) (below_of n c.args.w.now c.requires.fits c.diagram.result.now.nodes c.diagram.ensures.nodes))

pub unreachable-requires : goal.unreachable-requires
unreachable-requires c =
    let x = bits_of c.args.from.now in
    let y = c.requires.there.0 in
    let bits = of_states x y in
    let none = rw c.in_default.is at c.in_ok-bits.ensures in
    let led = led_leads c.args.n c.diagram.result.now c.args.w.now c.diagram.ensures.root c.diagram.ensures.nodes c.requires.fits
    c.in_ok-led.led c.args.from.now c.requires.from c.in_ok-led.ensures.value bits y (λ i _. sym (new_of_states x y i)) in
    let met = (c.in_ok-met.ensures.value bits).1 (led ∙ c.requires.there.1, λ k u b at. new_of_states x y u ∙ c.requires.there.2 k u b at) in
    false≢true (sym (none bits) ∙ met)

pub returns-clause-leads : goal.returns-clause-leads
returns-clause-leads c =
    let found = rw c.in-Some.is at c.in_ok-bits.ensures in
    let bits = bits_of c.in-Some.bits in
    let parts = (c.in_ok-met.ensures.value bits).0 found.1 in
    IfOk-weaker c.one_side.result _ _ (λ l h.
    sym (led_leads c.args.n c.diagram.result.now c.args.w.now c.diagram.ensures.root c.diagram.ensures.nodes c.requires.fits
    c.in_ok-led.led c.args.from.now c.requires.from c.in_ok-led.ensures.value bits (bits_of l)
    (λ i below. h i below ∙ ap (λ m. bits_of m (2 * i + 1)) c.as_slice.ensures))
    ∙ parts.0) c.one_side.ensures.bits

pub returns-clause-bits : goal.returns-clause-bits
returns-clause-bits c =
    let found = rw c.in-Some.is at c.in_ok-bits.ensures in
    let bits = bits_of c.in-Some.bits in
    let parts = (c.in_ok-met.ensures.value bits).0 found.1 in
    IfOk-weaker c.one_side.result _ _ (λ l h k u b at.
    h u (c.requires.wanted k u b at) ∙ ap (λ m. bits_of m (2 * u + 1)) c.as_slice.ensures ∙ parts.1 k u b at) c.one_side.ensures.bits
