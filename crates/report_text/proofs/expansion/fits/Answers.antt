use Rattle.std.proofs.Common.{◌≡◌, ◌≤◌, ◌+◌, false, arith, rules}
use Rattle.std.specs.Prelude.{IsTrue}
use Rattle.std.proofs.lemmas.Bool.{false≢true, leb-true, le-leb}
use Rattle.report_text.specs.Expansions.{size_of}
use Rattle.report_text.proofs.TotalLemmas.{size_known, size_over}
use Rattle.report_text.proofs.expansion.fits.Goals as goal

pub returns-in_default : goal.returns-in_default
returns-in_default c = λ runs h.
    let over = size_over c.args.total runs c.in_default.is h in
    (λ (t : IsTrue false). absurd (false≢true t), λ (fits : size_of runs ≤ c.args.limit). absurd (omega arith))

pub returns-in-Some-checked_add : goal.returns-in-Some-checked_add
returns-in-Some-checked_add c = λ runs h.
    let known = size_known c.args.total c.in-Some.counted runs c.in-Some.is h in
    let size : c.in-Some-checked_add.size ≡ c.in-Some.counted.runs + c.in-Some.counted.rules = search rules in (
      λ t. omega (arith, leb-true c.in-Some-checked_add.size c.args.limit t),
      λ fits. le-leb c.in-Some-checked_add.size c.args.limit (omega arith),
    )

pub returns-in-None : goal.returns-in-None
returns-in-None c = λ runs h.
    let known = size_known c.args.total c.in-Some.counted runs c.in-Some.is h in
    (λ (t : IsTrue false). absurd (false≢true t), λ (fits : size_of runs ≤ c.args.limit). absurd (omega (arith, c.in-None.ensures)))
