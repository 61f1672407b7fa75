use Rattle.std.proofs.Common.{◌≡◌, ◌∙◌, false, get_or, refl, sym, ap, arith, below_more}
use Rattle.std.proofs.lemmas.Bool.{false≢true}
use Rattle.std.proofs.lemmas.Option.{get_or_from_slice_get}
use Rattle.config_patterns.specs.Membership.{has_symbol}
use Rattle.walk_pairs.proofs.SetLemmas.{has_symbol_of, none_shared}
use Rattle.walk_pairs.proofs.meeting.are_shared.Goals as goal

pub loop-k-preserved : goal.loop-k-preserved
loop-k-preserved c =
    let set = c.args.set.now in
    let other = c.args.other.now in
    let k = c.loop-k.k in
    below_more (λ j. has_symbol (get_or set j 0) other ≡ false) k c.loop-k.invariant
    (ap (λ h. has_symbol h other) (get_or_from_slice_get set k c.at.result 0 c.at.ensures) ∙ sym c.has.ensures ∙ c.if-has.false)

pub returns-then-has : goal.returns-then-has
returns-then-has c = (λ yes. (c.at.result, has_symbol_of c.args.set.now c.loop-k.k c.at.result c.at.ensures, sym c.has.ensures ∙ c.if-has.true), λ some. refl)

pub returns : goal.returns
returns c = (
  λ no. absurd (false≢true no),
  λ some. absurd (none_shared c.args.set.now c.args.other.now (λ j low. c.loop-k.invariant j (omega (arith, low, c.loop-k-test.false))) some.0 some.1 some.2),
)
