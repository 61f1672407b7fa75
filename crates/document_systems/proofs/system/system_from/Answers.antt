use Rattle.std.proofs.Common.{◌≡◌, ◌<◌, length, get_or, ap, ◌∙◌, sym, subst}
use Rattle.std.specs.Prelude.{All}
use Rattle.document_forms.specs.Lawful.{IsRuleLine}
use Rattle.pushdown_rules.specs.Pushdown.{Pushdown}
use Rattle.document_systems.specs.Systems.{IsTaken}
use Rattle.document_systems.proofs.LineLemmas.{next_is_not_refused, rules_before}
use Rattle.document_systems.proofs.system.system_from.Goals as goal

pub add_line-requires-clause-accepted : goal.add_line-requires-clause-accepted
add_line-requires-clause-accepted g c =
    let d = c.args.document.now in
    let i = c.loop-line.line-index in
    let s = c.loop-line.system in
    let same = c.loop-line.invariant in
    let controls : s.controls ≡ length d.controls = ap (λ (p : Pushdown _ _ _). p.controls) same in
    let symbols : s.symbols ≡ length d.symbols = ap (λ (p : Pushdown _ _ _). p.symbols) same in
    let read = c.as_slice-line-items.ensures in
    let within : i < length d.rules = subst (λ xs. i < length xs) read c.loop-line-test.true in
    let item : c.line-item.result ≡ get_or d.rules i c.line-item.result = subst (λ xs. c.line-item.result ≡ get_or xs i c.line-item.result) read c.line-item.is in
    let count : length s.rules ≡ i = ap (λ (p : Pushdown _ _ _). length p.rules) same ∙ rules_before _ d.rules i within in
    let items = length d.items in
    next_is_not_refused s d.weights items d.rules i c.line-item.result
    (subst (λ m. All (IsRuleLine d.weights m s.symbols items) d.rules) (sym controls) (subst (λ n. All (IsRuleLine d.weights (length d.controls) n items) d.rules) (sym symbols) c.requires.document.rules))
    c.requires.document.few_rules within item count

pub add_line-requires-clause-taken : goal.add_line-requires-clause-taken
add_line-requires-clause-taken g c =
    let d = c.args.document.now in
    let kind = g.S.DocumentWeights.kind in
    let i = c.loop-line.line-index in
    let r = c.line-item.result in
    let read = c.as_slice-line-items.ensures in
    let within : i < length d.rules = subst (λ xs. i < length xs) read c.loop-line-test.true in
    let item : r ≡ get_or d.rules i r = subst (λ xs. r ≡ get_or xs i r) read c.line-item.is in
    let semiring = ap (λ (p : Pushdown _ _ _). p.semiring) c.loop-line.invariant in
    subst (λ s. IsTaken kind s r) (sym semiring) (subst (IsTaken kind c.args.semiring) (sym item) (c.requires.taken i r within))
