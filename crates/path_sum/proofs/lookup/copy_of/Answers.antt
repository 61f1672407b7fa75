use Rattle.std.proofs.Common.{◌≡◌, ℕ, List, ◌∙◌, ◌++◌, ◌∷◌, [], take, get_or, sym, ap, arith}
use Rattle.std.proofs.lemmas.List.{take_more}
use Rattle.std.proofs.lemmas.Option.{get_or_from_slice_get}
use Rattle.path_sum.proofs.lookup.copy_of.Goals as goal

pub loop-k-preserved : goal.loop-k-preserved
loop-k-preserved c =
    let set = c.args.set.now in
    let k = c.loop-k.k in
    let at : get_or set k 0 ≡ c.at.result = get_or_from_slice_get set k c.at.result 0 c.at.ensures in
    c.in_ok-push.ensures.items
    ∙ ap (λ (l : List ℕ). l ++ c.at.result ∷ []) c.loop-k.invariant
    ∙ ap (λ symbol. take k set ++ symbol ∷ []) (sym at)
    ∙ sym (take_more set k 0 (omega arith))
