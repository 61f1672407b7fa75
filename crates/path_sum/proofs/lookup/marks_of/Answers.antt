use Rattle.std.proofs.Common.{◌≡◌, ℕ, ◌∙◌, get_or, sym, ap, arith}
use Rattle.std.specs.Prelude.{◌||◌, false, nat_eq, slice_index_or}
use Rattle.std.proofs.lemmas.Option.{get_or_from_slice_get}
use Rattle.path_sum.proofs.LookupLemmas.{marks_more, marks_done}
use Rattle.path_sum.proofs.lookup.marks_of.Goals as goal

pub loop-k-preserved : goal.loop-k-preserved
loop-k-preserved c =
    let set = c.args.set.now in
    let k = c.loop-k.k in
    let old = c.loop-k.marks.items in
    let at : get_or set k 0 ≡ c.at.result = get_or_from_slice_get set k c.at.result 0 c.at.ensures in
    marks_more set k old c.mark.new.marks.items (omega arith) c.loop-k.invariant
    (λ h. c.in_ok-mark.ensures h ∙ ap (λ symbol. nat_eq symbol h || slice_index_or old h false) (sym at))

pub returns : goal.returns
returns c = marks_done c.args.set.now c.loop-k.k c.loop-k.marks.items (omega arith) c.loop-k.invariant
