use Rattle.std.proofs.Common.{rules, ◌≡◌, ◌∙◌, sym, ap, ap₂, ◌++◌, List, ℕ, [], ◌∷◌, codes, decimal, append_assoc}
use Rattle.wpds_app.proofs.generate.ladder_line.Goals as goal

pub returns : goal.returns
returns c =
    let head : List ℕ = codes "gen " ++ decimal c.args.rungs ++ codes ": " in
    let first : c.into_bytes-line.result.items ≡ head = search rules in
    let second : c.as_bytes.result.now ≡ decimal c.args.rules ++ codes " rules, value " = search rules in
    let joined = c.in_ok-extend_from_slice.ensures.items ∙ ap₂ (λ xs ys. xs ++ ys) first second ∙ sym (append_assoc head (decimal c.args.rules) (codes " rules, value ")) in
    c.from_vec.ensures ∙ c.in_ok-push.ensures.items
    ∙ ap (λ xs. xs ++ 10 ∷ []) (c.in_ok-extend_from_slice-2.ensures.items ∙ ap₂ (λ xs ys. xs ++ ys) joined c.as_bytes-2.ensures)
