use Rattle.std.proofs.Common.{◌≡◌, ℕ, ◌+◌, ◌*◌, ◌/◌, ◌<◌, ◌≤◌, List, drop, length, sym, ap, ◌∙◌, arith}
use Rattle.std.proofs.lemmas.List.{length-drop}
use Rattle.key_rows.specs.Keys.{bytes_mixed, mixed}
use Rattle.key_rows.proofs.WordLemmas.{word_mixed_at, rest_mixed}
use Rattle.key_rows.proofs.bytes.RefSliceU8Key.spread.Goals as goal

pub loop-k-preserved : goal.loop-k-preserved
loop-k-preserved c =
    let bytes : List ℕ = c.args.self.now in
    let i : ℕ = 8 * c.loop-k.k in
    let next : i + 8 ≡ 8 * (c.loop-k.k + 1) = omega arith in
    let long : 8 ≤ length (drop i bytes) = omega (arith, length-drop i bytes, c.loop-k-test.true) in
    ap (λ n. bytes_mixed c.mixed_word-hash.result (drop n bytes)) (sym next)
    ∙ ap (λ hash. bytes_mixed hash (drop (i + 8) bytes)) (c.mixed_word-hash.ensures ∙ ap (mixed c.loop-k.hash) c.word_at.ensures.word)
    ∙ sym (word_mixed_at c.loop-k.hash bytes i long)
    ∙ c.loop-k.invariant

pub returns : goal.returns
returns c =
    let bytes : List ℕ = c.args.self.now in
    let words : ℕ = length bytes / 8 in
    let all : 8 * c.loop-k.k ≡ 8 * words = omega (arith, c.loop-k.auto.k-end, c.loop-k-test.false) in
    let few : length (drop (8 * words) bytes) < 8 = omega (arith, length-drop (8 * words) bytes) in
    c.mixed_word.ensures
    ∙ ap (mixed c.loop-k.hash) c.rest_at.ensures
    ∙ sym (rest_mixed c.loop-k.hash (drop (8 * words) bytes) few)
    ∙ ap (λ n. bytes_mixed c.loop-k.hash (drop n bytes)) (sym all)
    ∙ c.loop-k.invariant
