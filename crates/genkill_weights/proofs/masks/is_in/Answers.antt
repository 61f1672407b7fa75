use Rattle.std.proofs.Common.{◌/◌, ◌%◌, sym, ap, ◌∙◌, arith, get_or}
use Rattle.std.specs.Prelude.{nat_eq}
use Rattle.std.proofs.lemmas.Nat.Bits.{shr_and_one}
use Rattle.genkill_weights.specs.Masks.{word, has}
use Rattle.genkill_weights.specs.private.WordLaws.{has_zero}
use Rattle.genkill_weights.proofs.FunctionLemmas.{word_outside}
use Rattle.genkill_weights.proofs.masks.is_in.Goals as goal

pub returns-then-at : goal.returns-then-at
returns-then-at g c = sym (ap (λ w. has w (c.args.number % 64)) (word_outside c.args.mask.now (c.args.number / 64) (omega arith)) ∙ has_zero (c.args.number % 64))

pub returns : goal.returns
unfolding word has
returns g c = ap (λ b. nat_eq b 1) (shr_and_one (get_or c.args.mask.now (c.args.number / 64) 0) (c.args.number % 64))
