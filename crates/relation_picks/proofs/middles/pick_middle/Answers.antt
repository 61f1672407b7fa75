use Rattle.std.proofs.Common.{ℕ, suc, ◌≡◌, ◌+◌, ◌*◌, ◌/◌, Bool, ap, sym, ◌∙◌, arith}
use Rattle.std.proofs.lemmas.Bool.{false≢true, and_parts, and_from}
use Rattle.std.proofs.lemmas.Result.{IfOk-weaker}
use Rattle.diagram_store.specs.Diagrams.{meaning}
use Rattle.diagram_store.specs.Meaning.{bits_of}
use Rattle.relation_picks.proofs.PairLemmas.{below_of, led_leads, leading_leads}
use Rattle.relation_picks.proofs.middles.pick_middle.Goals as goal

pub meet-requires-clause-first : goal.meet-requires-clause-first
meet-requires-clause-first c =
    c.in_ok-led.ensures.variables (2 * c.args.n) (below_of c.args.n c.args.first.now c.requires.first c.diagram.result.now.nodes c.diagram.ensures.nodes)

pub meet-requires-clause-second : goal.meet-requires-clause-second
meet-requires-clause-second c =
    c.in_ok-leading.ensures.variables (2 * c.args.n) (below_of c.args.n c.args.second.now c.requires.second c.diagram-2.result.now.nodes c.diagram-2.ensures.nodes)

pub unreachable-requires : goal.unreachable-requires
unreachable-requires c =
    let y = c.requires.there.0 in
    let bits : ℕ → Bool = λ v. y (v / 2) in
    let none = rw c.in_default.is at c.in_ok-bits.ensures in
    let half : (i : ℕ) → (2 * i + 1) / 2 ≡ i = λ i. omega arith in
    let next : (i : ℕ) → suc (2 * i) / 2 ≡ i = λ i. omega arith in
    let led = led_leads c.args.n c.diagram.result.now c.args.first.now c.diagram.ensures.root c.diagram.ensures.nodes c.requires.first
    c.in_ok-led.led c.args.from.now c.requires.from c.in_ok-led.ensures.value bits y (λ i _. ap y (sym (half i))) in
    let leading = leading_leads c.args.n c.diagram-2.result.now c.args.second.now c.diagram-2.ensures.root c.diagram-2.ensures.nodes c.requires.second
    c.in_ok-leading.leading c.args.to.now c.requires.to c.in_ok-leading.ensures.value (λ v. bits (suc v)) y (λ i _. ap y (sym (next i))) in
    let both = c.in_ok-both.ensures.value bits ∙ and_from (meaning c.in_ok-led.led bits) (meaning c.in_ok-leading.leading (λ v. bits (suc v)))
    (led ∙ c.requires.there.1) (leading ∙ c.requires.there.2) in
    false≢true (sym (none bits) ∙ both)

pub returns-clause-first : goal.returns-clause-first
returns-clause-first c =
    let found = rw c.in-Some.is at c.in_ok-bits.ensures in
    let bits = bits_of c.in-Some.bits in
    let parts = and_parts (meaning c.in_ok-led.led bits) (meaning c.in_ok-leading.leading (λ v. bits (suc v))) (sym (c.in_ok-both.ensures.value bits) ∙ found.1) in
    IfOk-weaker c.one_side.result _ _ (λ l h.
    sym (led_leads c.args.n c.diagram.result.now c.args.first.now c.diagram.ensures.root c.diagram.ensures.nodes c.requires.first
    c.in_ok-led.led c.args.from.now c.requires.from c.in_ok-led.ensures.value bits (bits_of l)
    (λ i below. h i below ∙ ap (λ m. bits_of m (2 * i + 1)) c.as_slice.ensures))
    ∙ parts.0) c.one_side.ensures.bits

pub returns-clause-second : goal.returns-clause-second
returns-clause-second c =
    let found = rw c.in-Some.is at c.in_ok-bits.ensures in
    let bits = bits_of c.in-Some.bits in
    let parts = and_parts (meaning c.in_ok-led.led bits) (meaning c.in_ok-leading.leading (λ v. bits (suc v))) (sym (c.in_ok-both.ensures.value bits) ∙ found.1) in
    let next : (i : ℕ) → 2 * i + 1 ≡ suc (2 * i) = λ i. omega arith in
    IfOk-weaker c.one_side.result _ _ (λ l h.
    sym (leading_leads c.args.n c.diagram-2.result.now c.args.second.now c.diagram-2.ensures.root c.diagram-2.ensures.nodes c.requires.second
    c.in_ok-leading.leading c.args.to.now c.requires.to c.in_ok-leading.ensures.value (λ v. bits (suc v)) (bits_of l)
    (λ i below. h i below ∙ ap (λ m. bits_of m (2 * i + 1)) c.as_slice.ensures ∙ ap bits (next i)))
    ∙ parts.1) c.one_side.ensures.bits
