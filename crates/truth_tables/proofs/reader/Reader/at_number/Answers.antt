use Rattle.std.proofs.Common.{◌≡◌, ◌∙◌, true, false, sym, ap}
use Rattle.std.specs.Prelude.{codes, bytes_eq}
use Rattle.truth_tables.proofs.StepLemmas.{number_zero, number_one}
use Rattle.truth_tables.proofs.reader.Reader.at_number.Goals as goal

pub returns-then-eq : goal.returns-then-eq
returns-then-eq c = λ place.
    let digits = c.args.digits.now in
    let first : bytes_eq digits (codes "0") ≡ true = sym (c.eq.ensures ∙ ap (bytes_eq digits) c.as_slice.ensures) ∙ c.if-eq.true in
    number_zero c.args.limit place c.args.self.now.pending.items c.args.self.now.parts digits c.put.new.parts c.put.result c.behind.result first c.put.ensures c.behind.ensures

pub returns-then-eq-2 : goal.returns-then-eq-2
returns-then-eq-2 c = λ place.
    let digits = c.args.digits.now in
    let first : bytes_eq digits (codes "0") ≡ false = sym (c.eq.ensures ∙ ap (bytes_eq digits) c.as_slice.ensures) ∙ c.if-eq.false in
    let second : bytes_eq digits (codes "1") ≡ true = sym (c.eq-2.ensures ∙ ap (bytes_eq digits) c.as_slice-2.ensures) ∙ c.if-eq-2.true in
    let put = c.put-then-eq-2 in
    let behind = c.behind-then-eq-2 in
    number_one c.args.limit place c.args.self.now.pending.items c.args.self.now.parts digits put.new.parts put.result behind.result first second put.ensures behind.ensures
