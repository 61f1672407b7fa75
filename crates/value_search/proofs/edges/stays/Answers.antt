use Rattle.std.proofs.Common.{◌≡◌, ◌-◌, suc, true, false, sym, ◌∙◌, arith}
use Rattle.std.proofs.lemmas.Bool.{and_from, and_parts}
use Rattle.config_patterns.specs.Membership.{has_symbol}
use Rattle.value_search.proofs.EdgeLemmas.{stays_decided, stays_low}
use Rattle.value_search.proofs.edges.stays.Goals as goal

pub returns-then-from-items-clause-no : goal.returns-then-from-items-clause-no
returns-then-from-items-clause-no c = λ _ k is there.
    stays_low c.args.target.now.items c.args.from c.args.symbol (omega (arith, c.if-from-items.true, c.items.ensures.value)) k is there

pub returns-then-not-item-clause-no : goal.returns-then-not-item-clause-no
returns-then-not-item-clause-no c = λ _ k is there.
    let x = c.item-item.result.now in
    let decided = stays_decided c.args.target.now.items c.args.from c.args.symbol x c.item-item.ensures.item k is in
    let parts = and_parts x.star (has_symbol c.args.symbol x.set) (sym decided ∙ there) in
    let both : true ≡ false = sym parts.0 ∙ c.if-not-item.true in
    absurd (let no : ⊥ = cc in no)

pub returns-clause-yes : goal.returns-clause-yes
returns-clause-yes c = λ yes.
    let x = c.item-item.result.now in
    let is : c.args.from ≡ suc (c.args.from - 1) = omega (arith, c.if-from-eq0.false) in (
      c.args.from - 1,
      is,
      stays_decided c.args.target.now.items c.args.from c.args.symbol x c.item-item.ensures.item (c.args.from - 1) is
          ∙ and_from x.star (has_symbol c.args.symbol x.set) c.if-not-item.false (sym c.has.ensures ∙ yes),
    )

pub returns-clause-no : goal.returns-clause-no
returns-clause-no c = λ none k is there.
    let x = c.item-item.result.now in
    let decided = stays_decided c.args.target.now.items c.args.from c.args.symbol x c.item-item.ensures.item k is in
    let parts = and_parts x.star (has_symbol c.args.symbol x.set) (sym decided ∙ there) in
    let both : true ≡ false = sym parts.1 ∙ (sym c.has.ensures ∙ none) in
    absurd (let no : ⊥ = cc in no)
